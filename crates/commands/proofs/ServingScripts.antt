-- From the bytes of a script to its items, and from a run under these to the words.
use Rattle.std.proofs.Common.{◌≡◌, ◌≤◌, ◌+◌, inl, inr, ℕ, ℤ, List, Option, Some, None, Result, Ok, Err, sym, ap, subst, ◌∙◌, take, arith}
use Rattle.std.proofs.lemmas.Bool.{cases_lt}
use Rattle.ann_base.specs.declared.faults.OrMemory.{OrMemory}
use Rattle.ann_base.specs.declared.faults.OrMemory.TheVariants as answer
use Rattle.ann_base.specs.Answers.{Answers}
use Rattle.ann_base.specs.Outside.{Rose, Lacks, LacksIn}
use Rattle.outside_bytes.specs.Files.{told, WhereTold}
use Rattle.ada_lex.specs.declared.lexing.TheConstants.{MAX_SOURCE}
use Rattle.profile_image.specs.declared.script_items.Item.{Item}
use Rattle.profile_image.specs.declared.image.Image.{Image}
use Rattle.ada_verdicts.specs.declared.refusals.Refusal.{Refusal}
use Rattle.ada_verdicts.specs.Accepted.{Accepted as IsAccepted, judged, LongSourcesAreRefused}
use Rattle.event_script.specs.declared.faults.TheConstants.{SCRIPT_BYTES}
use Rattle.event_script.specs.Script.{script_of, CutScriptsAreReadAlike}
use Rattle.commands.specs.declared.requests.Work.TheVariants as work
use Rattle.commands.specs.declared.outcomes.NoItems.{NoItems}
use Rattle.commands.specs.declared.outcomes.NoItems.TheVariants as missing
use Rattle.commands.specs.declared.outcomes.Outcome.{Outcome}
use Rattle.commands.specs.declared.outcomes.Outcome.TheVariants.{Ended, Accepted, Tested, Traced, WordsRefused, SourceRefused}
use Rattle.commands.specs.declared.outcomes.Outcome.TheVariants.{ScriptRefused, TableRefused, TraceRefused, ReadFault, WriteFault, NoMemory}
use Rattle.commands.specs.Requests.{ScriptAsked}
use Rattle.commands.specs.Outside.{ShelfChange, SinkChange, IsKept, GainedPrefix}
use Rattle.commands.specs.Outcomes.{without_items}
use Rattle.commands.specs.Performed.{text_for, without_image, ServesImage, ServesScript, ServesUnder, ReadsScript}
use Rattle.commands.specs.Performed.{ReadsFile, OfItems, IsAcceptable, Performs, IsDone, IsRefused, IsCutShort}
use Rattle.commands.proofs.Serving.{accepted_as, IsAnswered, is_done, never, IsReadAs, refused_file, done_file, cut_file, where_told}
use Rattle.commands.proofs.Told.{told_map, items_map, items_told}

-- ---- a script

-- the bytes that were read say the same as those of the file
script_is : (bytes file : List ℕ) → CutScriptsAreReadAlike → bytes ≡ take (SCRIPT_BYTES + 1) file → script_of file ≡ script_of bytes
script_is bytes file law cut = sym (law file) ∙ ap script_of (sym cut)

pub script_read : (shelf : ShelfChange) (script bytes : List ℕ) (r : Result (List (ℤ × Item)) NoItems) → CutScriptsAreReadAlike →
    WhereTold (told shelf.files script) (λ file. bytes ≡ take (SCRIPT_BYTES + 1) file) → ReadsScript bytes r → ReadsFile shelf script r
script_read shelf script bytes (Ok items) law read h =
    told_map (told shelf.files script) (λ file. bytes ≡ take (SCRIPT_BYTES + 1) file) (λ text. script_of text ≡ Ok items)
    (λ file cut. script_is bytes file law cut ∙ h) read
script_read shelf script bytes (Err (missing.Refused fault)) law read h =
    told_map (told shelf.files script) (λ file. bytes ≡ take (SCRIPT_BYTES + 1) file) (λ text. script_of text ≡ Err fault)
    (λ file cut. script_is bytes file law cut ∙ h) read
script_read shelf script bytes (Err missing.Unread) law read h = absurd h
script_read shelf script bytes (Err missing.NoMemory) law read h = tt

-- ---- from the items of a script to its name

pub script_served : (script : List ℕ) (ticks : ℕ) (image : Image) (shelf : ShelfChange) (out : SinkChange) (items : List (ℤ × Item)) (o : Outcome) →
    WhereTold (told shelf.files script) (λ text. script_of text ≡ Ok items) → ServesImage items (work.Run ticks) image out o
    → ServesScript script ticks image shelf out o
script_served script ticks image shelf out items (Ended stop) read h =
    items_told shelf script items (λ xs. ServesImage xs (work.Run ticks) image out (Ended stop)) read h
script_served script ticks image shelf out items Accepted read h =
    items_told shelf script items (λ xs. ServesImage xs (work.Run ticks) image out Accepted) read h
script_served script ticks image shelf out items (Tested failed) read h = absurd h
script_served script ticks image shelf out items (Traced broken) read h = absurd h
script_served script ticks image shelf out items WordsRefused read h = absurd h
script_served script ticks image shelf out items (SourceRefused refusal) read h = absurd h
script_served script ticks image shelf out items (ScriptRefused fault) read h = absurd h
script_served script ticks image shelf out items (TableRefused fault) read h = absurd h
script_served script ticks image shelf out items (TraceRefused line) read h = absurd h
script_served script ticks image shelf out items ReadFault read h = absurd h
script_served script ticks image shelf out items WriteFault read h = (
  h.0,
  items_told shelf script items (λ xs. GainedPrefix out (text_for xs (work.Run ticks) image)) read h.1,
)
script_served script ticks image shelf out items NoMemory read h =
    inr (items_told shelf script items (λ xs. GainedPrefix out (text_for xs (work.Run ticks) image)) read h)

-- without items nothing is written
pub unread_served : (script : List ℕ) (ticks : ℕ) (image : Image) (shelf : ShelfChange) (out : SinkChange) (lack : NoItems) →
    ReadsFile shelf script (Err lack) → IsKept out → ServesScript script ticks image shelf out (without_items lack)
unread_served script ticks image shelf out (missing.Refused fault) read kept = (read, kept)
unread_served script ticks image shelf out missing.Unread read kept = (read, kept)
unread_served script ticks image shelf out missing.NoMemory read kept = inl kept

-- ---- from an image to the bytes of a source

pub image_served : (script : List ℕ) (ticks : ℕ) (bytes : List ℕ) (image : Image) (shelf : ShelfChange) (out : SinkChange) (o : Outcome)
    → IsAccepted bytes image → IsAnswered bytes image →
    ServesScript script ticks image shelf out o → ServesUnder script ticks bytes shelf out o
image_served script ticks bytes image shelf out (Ended stop) accepted only h =
    items_map shelf script (λ items. ServesImage items (work.Run ticks) image out (Ended stop)) (λ items. IsDone items (work.Run ticks) bytes out (Ended stop))
    (λ items s. is_done items (work.Run ticks) bytes image out (Ended stop) accepted only s.0 s.1 s.2) h
image_served script ticks bytes image shelf out Accepted accepted only h =
    items_map shelf script (λ items. ServesImage items (work.Run ticks) image out Accepted) (λ items. IsDone items (work.Run ticks) bytes out Accepted)
    (λ items s. is_done items (work.Run ticks) bytes image out Accepted accepted only s.0 s.1 s.2) h
image_served script ticks bytes image shelf out (Tested failed) accepted only h = absurd h
image_served script ticks bytes image shelf out (Traced broken) accepted only h = absurd h
image_served script ticks bytes image shelf out WordsRefused accepted only h = absurd h
image_served script ticks bytes image shelf out (SourceRefused refusal) accepted only h = absurd h
image_served script ticks bytes image shelf out (ScriptRefused fault) accepted only h = ((image, accepted), h.0, h.1)
image_served script ticks bytes image shelf out (TableRefused fault) accepted only h = absurd h
image_served script ticks bytes image shelf out (TraceRefused line) accepted only h = absurd h
image_served script ticks bytes image shelf out ReadFault accepted only h = ((image, accepted), h.0, h.1)
image_served script ticks bytes image shelf out WriteFault accepted only h = (
  h.0,
  items_map shelf script (λ items. GainedPrefix out (text_for items (work.Run ticks) image)) (λ items. IsCutShort items (work.Run ticks) bytes out)
      (λ items s. (image, accepted, s)) h.1,
)
image_served script ticks bytes image shelf out NoMemory accepted only (inl kept) = inl kept
image_served script ticks bytes image shelf out NoMemory accepted only (inr cut) =
    inr (items_map shelf script (λ items. GainedPrefix out (text_for items (work.Run ticks) image)) (λ items. IsCutShort items (work.Run ticks) bytes out)
    (λ items s. (image, accepted, s)) cut)

pub refused_under : (script : List ℕ) (ticks : ℕ) (bytes : List ℕ) (refused : OrMemory Refusal) (shelf : ShelfChange) (out : SinkChange)
    → Answers {X = Image} (Err refused) (judged bytes) →
    ((image : Image) → IsAccepted bytes image → Answers {X = Image} (Err refused) (accepted_as image)) → IsKept out
    → ServesUnder script ticks bytes shelf out (without_image refused)
refused_under script ticks bytes (answer.Fault refusal) shelf out reason only kept = (
  record { reason = reason; never = λ image fits. never image refusal (only image fits) },
  kept,
)
refused_under script ticks bytes answer.Memory shelf out reason only kept = inl kept

-- ---- from the bytes of a source that were read to the words

acceptable_file : (bytes file : List ℕ) → LongSourcesAreRefused → IsReadAs bytes file → IsAcceptable bytes → IsAcceptable file
acceptable_file bytes file law (inl same) fits = subst IsAcceptable same fits
acceptable_file bytes file law (inr long) fits = absurd ((law bytes long.0).1 fits.0 fits.1)

-- what rose in the second part of a call rose in the call
pub rose_later : (before middle after : ℕ) → before ≤ middle → middle ≤ after → Rose middle after → Rose before after
rose_later before middle after low high (inl rose) = inl (omega (arith, low, rose))
rose_later before middle after low high (inr full) = elim (cases_lt before after) [
  | inl less ↦ inl less
  | inr most ↦ inr (omega (arith, low, high, most, full))
]

lacks_in : (file : Option (List ℕ)) (A B : Type 0) → (A → B) → LacksIn file A → LacksIn file B
lacks_in None A B f h = tt
lacks_in (Some bytes) A B f h = f h

lacks_later : (files : Option (List ℕ → Option (List ℕ))) (name : List ℕ) (A B : Type 0) → (A → B) → Lacks files name A → Lacks files name B
lacks_later None name A B f h = f h
lacks_later (Some files) name A B f h = lacks_in (files name) A B f h

abbrev pub shelf_since : ShelfChange → Option (List ℕ → Option (List ℕ)) → ℕ → ShelfChange
shelf_since shelf files middle = record { files = files; faults_before = middle; faults_after = shelf.faults_after }

words_by : (source script : List ℕ) (ticks : ℕ) (shelf : ShelfChange) (middle : ℕ) (out : SinkChange) (bytes : List ℕ) (o : Outcome) → LongSourcesAreRefused
    → shelf.faults_before ≤ middle → middle ≤ shelf.faults_after →
    WhereTold (told shelf.files source) (λ file. bytes ≡ take (MAX_SOURCE + 1) file)
    → ServesUnder script ticks bytes (shelf_since shelf shelf.files middle) out o → Performs (Some (ScriptAsked source script ticks)) shelf out o
words_by source script ticks shelf middle out bytes (Ended stop) law low high read h =
    where_told (told shelf.files source) bytes (λ file. OfItems shelf script (λ items. IsDone items (work.Run ticks) file out (Ended stop))) read
    (λ file same.
    items_map shelf script (λ items. IsDone items (work.Run ticks) bytes out (Ended stop)) (λ items. IsDone items (work.Run ticks) file out (Ended stop))
    (λ items done_so. done_file items (work.Run ticks) bytes file out (Ended stop) law same done_so) h)
words_by source script ticks shelf middle out bytes Accepted law low high read h =
    where_told (told shelf.files source) bytes (λ file. OfItems shelf script (λ items. IsDone items (work.Run ticks) file out Accepted)) read
    (λ file same. items_map shelf script (λ items. IsDone items (work.Run ticks) bytes out Accepted) (λ items. IsDone items (work.Run ticks) file out Accepted)
    (λ items done_so. done_file items (work.Run ticks) bytes file out Accepted law same done_so) h)
words_by source script ticks shelf middle out bytes (Tested failed) law low high read h = absurd h
words_by source script ticks shelf middle out bytes (Traced broken) law low high read h = absurd h
words_by source script ticks shelf middle out bytes WordsRefused law low high read h = absurd h
words_by source script ticks shelf middle out bytes (SourceRefused refusal) law low high read h =
    (where_told (told shelf.files source) bytes (λ file. IsRefused file refusal) read (λ file same. refused_file bytes file refusal law same h.0), h.1)
words_by source script ticks shelf middle out bytes (ScriptRefused fault) law low high read h =
    ((where_told (told shelf.files source) bytes IsAcceptable read (λ file same. acceptable_file bytes file law same h.0), h.1), h.2)
words_by source script ticks shelf middle out bytes (TableRefused fault) law low high read h = absurd h
words_by source script ticks shelf middle out bytes (TraceRefused line) law low high read h = absurd h
words_by source script ticks shelf middle out bytes ReadFault law low high read h = (
  inr (
    where_told (told shelf.files source) bytes IsAcceptable read (λ file same. acceptable_file bytes file law same h.0),
    lacks_later shelf.files script (Rose middle shelf.faults_after) (Rose shelf.faults_before shelf.faults_after)
        (rose_later shelf.faults_before middle shelf.faults_after low high) h.1,
  ),
  h.2,
)
words_by source script ticks shelf middle out bytes WriteFault law low high read h = (
  h.0,
  where_told (told shelf.files source) bytes (λ file. OfItems shelf script (λ items. IsCutShort items (work.Run ticks) file out)) read
      (λ file same. items_map shelf script (λ items. IsCutShort items (work.Run ticks) bytes out) (λ items. IsCutShort items (work.Run ticks) file out)
      (λ items cut. cut_file items (work.Run ticks) bytes file out law same cut) h.1),
)
words_by source script ticks shelf middle out bytes NoMemory law low high read (inl kept) = inl kept
words_by source script ticks shelf middle out bytes NoMemory law low high read (inr h) =
    inr (where_told (told shelf.files source) bytes (λ file. OfItems shelf script (λ items. IsCutShort items (work.Run ticks) file out)) read
    (λ file same. items_map shelf script (λ items. IsCutShort items (work.Run ticks) bytes out) (λ items. IsCutShort items (work.Run ticks) file out)
    (λ items cut. cut_file items (work.Run ticks) bytes file out law same cut) h))

-- what is done with the bytes that were read is done for the words, where reading leaves the files as they are
pub words_served : (source script : List ℕ) (ticks : ℕ) (shelf : ShelfChange) (files : Option (List ℕ → Option (List ℕ))) (middle : ℕ) (out : SinkChange)
    (bytes : List ℕ) (o : Outcome)
    → LongSourcesAreRefused
    →
    files ≡ shelf.files → shelf.faults_before ≤ middle → middle ≤ shelf.faults_after
    → WhereTold (told shelf.files source) (λ file. bytes ≡ take (MAX_SOURCE + 1) file) →
    ServesUnder script ticks bytes (shelf_since shelf files middle) out o → Performs (Some (ScriptAsked source script ticks)) shelf out o
words_served source script ticks shelf files middle out bytes o law same low high read h =
    words_by source script ticks shelf middle out bytes o law low high read
    (subst (λ f. ServesUnder script ticks bytes (shelf_since shelf f middle) out o) same h)
