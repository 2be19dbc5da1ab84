-- Steps that change a world several times, change by change.
use Rattle.std.proofs.Common.{◌≡◌, ℕ, ℤ, Bool, true, false, ◌||◌, leb, length, Option, Some, Ok, Err, List, refl, ap, sym, ◌∙◌}
use Rattle.ann_base.specs.declared.exceptions.Raised.TheVariants as exception
use Rattle.ann_base.specs.declared.identities.TaskNo.{TaskNo}
use Rattle.trace_text.specs.declared.events.Created.TheVariants as created
use Rattle.trace_text.specs.declared.events.Who.{Who}
use Rattle.profile_image.specs.declared.image.Image.{Image}
use Rattle.profile_image.specs.declared.numbers.DeclNo.{DeclNo}
use Rattle.profile_image.specs.declared.numbers.StatementNo.{StatementNo}
use Rattle.profile_machine.specs.declared.world.World.{World}
use Rattle.profile_machine.specs.declared.world.scopes.ScopeId.{ScopeId}
use Rattle.profile_machine.specs.declared.world.lines.Line.TheVariants as line
use Rattle.profile_machine.specs.declared.world.lines.Part.TheVariants.{Own}
use Rattle.profile_machine.specs.declared.world.lines.Said.{Said}
use Rattle.profile_machine.specs.declared.world.tasks.Task.{Task}
use Rattle.profile_machine.specs.Frames.{goes, given, raise_if, raises, in_protected, is_deferred}
use Rattle.profile_image.specs.Program.{next_of, declaration_of, task_unit_of}
use Rattle.profile_machine.specs.Scopes.{home}
use Rattle.profile_machine.specs.Steps.{Done, done, goes_on_with, says, changes, ◌▷◌}
use Rattle.profile_machine.specs.Tasking.{unit_of_declaration, optional_span, created_task, add_task, says_created, create_task, create}
use Rattle.profile_machine.specs.Operators.{Valued}
use Rattle.profile_machine.specs.Values.{Seen, seen_by}
use Rattle.machine_creation.specs.Created.{last_drawn, names_object, span_given, asks_span}

module _ (p : Image) (w : World) (said : List Said) where
  -- a task is to be created
  module _ (name : Who) (s : StatementNo) (d : DeclNo) (part : ℕ) where
    abbrev pub created_if : Bool → Bool → Valued (Option ℤ) → Done
    created_if barred full span =
        raise_if name barred exception.Program
        (raise_if name full exception.Storage
        (given Own name span
        (λ x. create_task p name s d (home w (declaration_of p d).scope (seen_by p w name).within)
        (created_task (seen_by p w name) d (unit_of_declaration p d) part x w.drawn.tasks)))) w said

    abbrev pub span_asked : Seen → Valued (Option ℤ)
    span_asked q = optional_span q (task_unit_of p (unit_of_declaration p d)).relative_deadline

    pub create_barred : (in_protected w name || is_deferred w name) ≡ true → create p name s d part w said ≡ raises Own name exception.Program w said
    unfolding create
    create_barred b = ap (λ x. created_if x (leb 256 (length w.tasks)) (span_asked (seen_by p w name))) b

    pub create_full : (in_protected w name || is_deferred w name) ≡ false → leb 256 (length w.tasks) ≡ true
        → create p name s d part w said ≡ raises Own name exception.Storage w said
    unfolding create
    create_full b f =
        ap (λ x. created_if x (leb 256 (length w.tasks)) (span_asked (seen_by p w name))) b ∙ ap (λ x. created_if false x (span_asked (seen_by p w name))) f

    -- what is done with the evaluated deadline
    asked : (span : Valued (Option ℤ)) → created_if false false span ≡ given Own name span (span_given p name s d part) w said
    unfolding span_given
    asked (Ok x) = refl
    asked (Err e) = refl

    pub create_asked : (in_protected w name || is_deferred w name) ≡ false → leb 256 (length w.tasks) ≡ false
        → create p name s d part w said ≡ asks_span p name s d part w said
    unfolding create
    create_asked b f =
        ap (λ x. created_if x (leb 256 (length w.tasks)) (span_asked (seen_by p w name))) b
        ∙ (ap (λ x. created_if false x (span_asked (seen_by p w name))) f ∙ asked (span_asked (seen_by p w name)))

  -- a task is created
  pub task_created : (name : Who) (s : StatementNo) (d : DeclNo) (id : Option ScopeId) (t : Task) (number : TaskNo) (gone added named : World)
      (told lines : List Said)
      → goes name (next_of p s) w said ≡ done gone told
      → added ≡ add_task t gone
      → names_object p d id added told ≡ done named lines
      → number ≡ last_drawn named
      → create_task p name s d id t w said ≡ says Own (line.New (created.Task number) (Some d) t.base) named lines
  unfolding create_task says_created
  task_created name s d id t number gone added named told lines g a n e =
      let behind = goes_on_with (says_created d t) in
      ap (goes_on_with (changes (add_task t) ▷ names_object p d id ▷ says_created d t)) g
      ∙ (ap (λ x. behind (names_object p d id x told)) (sym a)
      ∙ (ap behind n
      ∙ ap (λ k. says Own (line.New (created.Task k) (Some d) t.base) named lines) (sym e)))
