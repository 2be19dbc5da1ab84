-- Looking at a task of a world in which one was edited.

-- ---- tasks that are gone or new
