-- Subprograms, tasks and protected units, with bodies or without (6.1, 6.3, 9.1, 9.4), given that the sequences in them are read as they are written.
use Rattle.std.proofs.Common.{◌≡◌, ℕ, suc, Bool, true, false, List, [], ◌∷◌, ◌++◌, refl, ap, subst, codes}
use Rattle.std.specs.Prelude.{flat_map}
use Rattle.std.specs.List.{list_all}
use Rattle.ann_base.specs.declared.places.Place.{Place}
use Rattle.ada_tree.specs.declared.names.Identifier.{Identifier}
use Rattle.ada_tree.specs.declared.statements.Sequence.{Sequence}
use Rattle.ada_tree.specs.declared.statements.SequenceRole.{SequenceRole}
use Rattle.ada_tree.specs.declared.declarations.Body.{Body}
use Rattle.ada_tree.specs.declared.declarations.Declaration.{Declaration}
use Rattle.ada_tree.specs.declared.declarations.Declaration.TheVariants as declarations
use Rattle.ada_tree.specs.declared.declarations.ProtectedBody.{ProtectedBody}
use Rattle.ada_tree.specs.declared.declarations.ProtectedDeclaration.{ProtectedDeclaration}
use Rattle.ada_tree.specs.declared.declarations.SubprogramSpecification.{SubprogramSpecification}
use Rattle.ada_tree.specs.declared.declarations.TaskDeclaration.{TaskDeclaration}
use Rattle.ada_tree.specs.Written.{Written, Lexeme, word, word_at, delimiter, identifier_written, end_name_written}
use Rattle.ada_tree.specs.Spelling.{sequence_written}
use Rattle.ada_tree.specs.SpellingStatements.{semicolon}
use Rattle.ada_tree.specs.SpellingDeclarations.{specification_written, task_written, protected_written, body_written}
use Rattle.ada_tree.specs.SpellingDeclarations.{operation_body_written, protected_body_written, declaration_written}
use Rattle.ada_tree.specs.Shape.{sequence_fits}
use Rattle.ada_tree.specs.ShapeDeclarations.{specification_fits, task_fits, protected_fits, body_fits}
use Rattle.ada_tree.specs.ShapeDeclarations.{operation_body_fits, operations_fit, protected_body_fits, declaration_fits}
use Rattle.ada_grammar.specs.Reading.{Parser, ◌>>=◌, ◌>>◌, pure, choose, starts, sees_word, sees_delimiter}
use Rattle.ada_grammar.specs.Reading.{the_word, the_delimiter, end_name_of, below, items_of}
use Rattle.ada_grammar.specs.ReadingDeclarations.{begins_operation, specification_of, task_of, protected_of}
use Rattle.ada_grammar.specs.ReadingBodies.{body_of, operation_body_of, subprogram_body_of, subprogram_of}
use Rattle.ada_grammar.specs.ReadingBodies.{task_body_of, any_task_of, protected_body_of, any_protected_of}
use Rattle.grammar_laws.specs.Leads.{Leads}
use Rattle.grammar_laws.proofs.Reading.Exact.{done, Rest, Any, itself, Exact, closing, first_is}
use Rattle.grammar_laws.proofs.Reading.Tokens.{always, shapeless, not_word, word_then, sees_delimiter_first, sees_word_first}
use Rattle.grammar_laws.proofs.Reading.Choices.{Sound, one_form}
use Rattle.grammar_laws.proofs.Reading.Selects.{ReadsDeeper}
use Rattle.grammar_laws.proofs.Reading.ClausesEnds.{ends_operations, ends_specification}
use Rattle.grammar_laws.proofs.Reading.ClausesSteps.{delimiter_ends, last_before, plain_before, word_kept, identifier_kept}
use Rattle.grammar_laws.proofs.Reading.ClausesSteps.{end_name_exact, respelt_by, carried, chosen_by, passed_by, forked}
use Rattle.grammar_laws.proofs.Reading.ClausesSpecifications.{specification_exact}
use Rattle.grammar_laws.proofs.Reading.ClausesTasks.{task_behind, task_exact, protected_behind, protected_exact, task_made, protected_made}
use Rattle.grammar_laws.proofs.Reading.ClausesBegins.{task_no_body, protected_no_body}
use Rattle.grammar_laws.proofs.Reading.Bodies.{opened_is, body_exact, Specified, specified_written, specified_fits}
use Rattle.grammar_laws.proofs.Reading.Bodies.{specified_behind, specified_body_exact, specified_exact, operation_bodies_exact}

-- ---- two forms that begin alike: what stands behind the first part says which

module _ {X I A : Type 0} {make : I → X} {P : A → I → Type 0} {w : I → List Written} {ok : I → Bool} {ends : List Lexeme → Bool} (pa : Parser A)
    (test : List Lexeme → Bool) (f g : A → Parser X) where
  first_form : ((a : A) → Rest make (P a) w ok ends (f a)) → ((i : I) (ls r : List Lexeme) → Leads (w i) ls r → test ls ≡ true)
      → (ls : List Lexeme) (x : X) (r : List Lexeme) → (pa >>= f) ls ≡ done x r → (pa >>= λ a. choose test (f a) (g a)) ls ≡ done x r
  first_form law seen ls x r e =
      carried pa f (λ a. choose test (f a) (g a)) ls x r
      (λ a m e. chosen_by test (f a) (g a) m x r (λ e. let s = (law a).sound m x r e in seen s.item m r s.leads) e) e

  second_form : ((a : A) → Rest make (P a) w ok ends (g a)) → ((i : I) (ls r : List Lexeme) → Leads (w i) ls r → test ls ≡ false)
      → (ls : List Lexeme) (x : X) (r : List Lexeme) → (pa >>= g) ls ≡ done x r → (pa >>= λ a. choose test (f a) (g a)) ls ≡ done x r
  second_form law seen ls x r e =
      carried pa g (λ a. choose test (f a) (g a)) ls x r
      (λ a m e. passed_by test (f a) (g a) m x r (λ e. let s = (law a).sound m x r e in seen s.item m r s.leads) e) e

-- ---- subprograms

abbrev subprogram_made : SubprogramSpecification → Declaration Sequence
subprogram_made s = declarations.Subprogram s

abbrev subprogram_body_made : Specified → Declaration Sequence
subprogram_body_made x = declarations.SubprogramBody x.0 x.1

abbrev subprogram_end_of : SubprogramSpecification → Parser (Declaration Sequence)
subprogram_end_of specification = the_delimiter (codes ";") >> pure (declarations.Subprogram specification)

subprogram_end_exact : (specification : SubprogramSpecification)
    → Rest subprogram_made (λ s. Any s × (specification ≡ s)) (λ s. semicolon) (λ s. true) always (subprogram_end_of specification)
subprogram_end_exact specification = delimiter_ends subprogram_made _ (codes ";") specification (tt, refl) (λ j p. p.1)

subprogram_exact : (left : ℕ)
    → Rest subprogram_made Any (λ s. specification_written s ++ semicolon) (specification_fits left) always (specification_of left >>= subprogram_end_of)
unfolding starts
subprogram_exact left =
    last_before subprogram_made Any (delimiter (codes ";")) (λ s. []) always itself specification_written (specification_fits left) ends_specification
    (specification_of left) _ (specification_exact left) (λ l ls. refl)
    subprogram_end_exact

abbrev SoundDeclaration : ℕ → Parser (Declaration Sequence) → Type 0
SoundDeclaration left p = Sound itself (declaration_written sequence_written) (declaration_fits sequence_fits left) p

module _ (left : ℕ) (sequence : SequenceRole → Parser Sequence) (known : ReadsDeeper left sequence) where
  subprogram_body_exact : (specification : SubprogramSpecification)
      → Rest subprogram_body_made (λ x. Any x × (specification ≡ x.0)) specified_behind (λ x. body_fits sequence_fits left x.1) always
      (subprogram_body_of left sequence specification)
  unfolding subprogram_body_of
  subprogram_body_exact specification = specified_body_exact left sequence known subprogram_body_made specification

  whole_body_exact : Rest subprogram_body_made Any specified_written (specified_fits left) always (specification_of left >>= subprogram_body_of left sequence)
  unfolding subprogram_body_of
  whole_body_exact = specified_exact left sequence known subprogram_body_made

  pub subprogram_sound : SoundDeclaration left (subprogram_of left sequence)
  unfolding subprogram_of
  subprogram_sound =
      forked (specification_of left) (sees_delimiter (codes ";")) subprogram_end_of (subprogram_body_of left sequence)
      (one_form subprogram_made (subprogram_exact left) (λ s. refl) (λ s. refl))
      (one_form subprogram_body_made whole_body_exact (λ x. refl) (λ x. refl))

  pub subprogram_complete : (s : SubprogramSpecification) (ls r : List Lexeme) → specification_fits left s ≡ true
      → Leads (specification_written s ++ semicolon) ls r
      → subprogram_of left sequence ls ≡ done (declarations.Subprogram s) r
  unfolding subprogram_of
  subprogram_complete s ls r okay l =
      first_form (specification_of left) (sees_delimiter (codes ";")) subprogram_end_of (subprogram_body_of left sequence) subprogram_end_exact
      (λ s ls r l. sees_delimiter_first (codes ";") [] ls r l) ls (declarations.Subprogram s) r ((subprogram_exact left).complete s ls r tt okay l refl)

  pub subprogram_body_complete : (x : Specified) (ls r : List Lexeme) → specified_fits left x ≡ true → Leads (specified_written x) ls r
      → subprogram_of left sequence ls ≡ done (declarations.SubprogramBody x.0 x.1) r
  unfolding subprogram_of starts
  subprogram_body_complete x ls r okay l =
      second_form (specification_of left) (sees_delimiter (codes ";")) subprogram_end_of (subprogram_body_of left sequence) subprogram_body_exact
      (λ x ls r l. first_is (sees_delimiter (codes ";")) false (word (codes "is")) (λ l ls. refl) _ ls r l) ls (subprogram_body_made x) r
      (whole_body_exact.complete x ls r tt okay l refl)

-- ---- tasks

abbrev pub TaskBody : Type 0
TaskBody = Place × (Identifier × Body Sequence)

abbrev task_body_made : TaskBody → Declaration Sequence
task_body_made x = declarations.TaskBody x.0 x.1.0 x.1.1

abbrev named_behind : TaskBody → List Written
named_behind x = body_written sequence_written x.1.0 x.1.1

abbrev pub task_body_behind : TaskBody → List Written
task_body_behind x = word (codes "body") ∷ identifier_written x.1.0 ∷ named_behind x

abbrev pub task_body_written : TaskBody → List Written
task_body_written x = word_at x.0 (codes "task") ∷ task_body_behind x

abbrev pub task_body_fits : ℕ → TaskBody → Bool
task_body_fits left x = body_fits sequence_fits left x.1.1

task_whole_exact : (left : ℕ) → Rest task_made Any task_written (task_fits left) always (the_word (codes "task") >>= task_of left)
task_whole_exact left = word_kept task_made Any task_behind (task_fits left) always (λ t. t.place) (codes "task") (task_of left) (task_exact left)

module _ (left : ℕ) (sequence : SequenceRole → Parser Sequence) (known : ReadsDeeper left sequence) where
  task_body_exact : (place : Place)
      → Rest task_body_made (λ x. Any x × (place ≡ x.0)) task_body_behind (task_body_fits left) always (task_body_of left sequence place)
  unfolding task_body_of
  task_body_exact place =
      word_then task_body_made _ _ _ always (codes "body") _
      (identifier_kept task_body_made _ named_behind (task_body_fits left) always (λ x. x.1.0) _
      (λ name. respelt_by task_body_made _ (λ x. body_written sequence_written name x.1.1) named_behind (task_body_fits left) always _
      (closing task_body_made _ always (λ x. x.1.1) (body_written sequence_written name) (body_fits sequence_fits left) (body_of left sequence name.text)
      (λ body. (place, (name, body))) (body_exact left sequence known name)
      (λ b. ((tt, refl), refl)) (λ b. refl) (λ b x p e. rw (p.0.1, p.1, e) refl))
      (λ x p. rw (p.1) refl)))

  task_body_whole_exact : Rest task_body_made Any task_body_written (task_body_fits left) always (the_word (codes "task") >>= task_body_of left sequence)
  task_body_whole_exact =
      word_kept task_body_made Any task_body_behind (task_body_fits left) always (λ x. x.0) (codes "task") (task_body_of left sequence) task_body_exact

  pub task_sound : SoundDeclaration left (any_task_of left sequence)
  unfolding any_task_of
  task_sound =
      forked (the_word (codes "task")) (sees_word (codes "body")) (task_body_of left sequence) (task_of left)
      (one_form task_body_made task_body_whole_exact (λ x. refl) (λ x. refl))
      (one_form task_made (task_whole_exact left) (λ t. refl) (λ t. refl))

  pub task_body_complete : (x : TaskBody) (ls r : List Lexeme) → task_body_fits left x ≡ true → Leads (task_body_written x) ls r
      → any_task_of left sequence ls ≡ done (declarations.TaskBody x.0 x.1.0 x.1.1) r
  unfolding any_task_of
  task_body_complete x ls r okay l =
      first_form (the_word (codes "task")) (sees_word (codes "body")) (task_body_of left sequence) (task_of left) task_body_exact
      (λ x ls r l. sees_word_first (codes "body") (identifier_written x.1.0 ∷ named_behind x) ls r l) ls (task_body_made x) r
      (task_body_whole_exact.complete x ls r tt okay l refl)

  pub task_complete : (t : TaskDeclaration) (ls r : List Lexeme) → task_fits left t ≡ true → Leads (task_written t) ls r
      → any_task_of left sequence ls ≡ done (declarations.Task t) r
  unfolding any_task_of
  task_complete t ls r okay l =
      second_form (the_word (codes "task")) (sees_word (codes "body")) (task_body_of left sequence) (task_of left) (task_exact left)
      task_no_body ls (declarations.Task t) r ((task_whole_exact left).complete t ls r tt okay l refl)

-- ---- protected units: the operations of a body are one level further in

abbrev protected_body_made : ProtectedBody Sequence → Declaration Sequence
protected_body_made p = declarations.ProtectedBody p

abbrev end_behind : ProtectedBody Sequence → List Written
end_behind p = end_name_written p.named_at_end p.name ++ semicolon

abbrev is_behind : ProtectedBody Sequence → List Written
is_behind p = flat_map (operation_body_written sequence_written) p.operations ++ word (codes "end") ∷ end_behind p

abbrev pub protected_body_behind : ProtectedBody Sequence → List Written
protected_body_behind p = word (codes "body") ∷ identifier_written p.name ∷ word (codes "is") ∷ is_behind p

protected_whole_exact : (left : ℕ) → Rest protected_made Any protected_written (protected_fits left) always (the_word (codes "protected") >>= protected_of left)
protected_whole_exact left =
    word_kept protected_made Any protected_behind (protected_fits left) always (λ p. p.place) (codes "protected") (protected_of left) (protected_exact left)

operations_inside : (left m : ℕ) (deeper : SequenceRole → Parser Sequence) → left ≡ suc m → ReadsDeeper (below left) deeper
    → Exact (flat_map (operation_body_written sequence_written)) (list_all (operation_body_fits sequence_fits m)) ends_operations
    (items_of begins_operation (operation_body_of (below left) deeper))
operations_inside left m deeper e known =
    subst (λ (z : ℕ). Exact (flat_map (operation_body_written sequence_written)) (list_all (operation_body_fits sequence_fits z)) ends_operations
    (items_of begins_operation (operation_body_of (below left) deeper)))
    (ap below e) (operation_bodies_exact (below left) deeper known)

module _ (left : ℕ) (sequence : SequenceRole → Parser Sequence) (deeper : SequenceRole → Parser Sequence) (known : ReadsDeeper (below left) deeper) where
  protected_body_exact : (place : Place)
      → Rest protected_body_made (λ p. Any p × (place ≡ p.place)) protected_body_behind (protected_body_fits sequence_fits left) always
      (protected_body_of left sequence deeper place)
  unfolding protected_body_of starts
  protected_body_exact place =
      word_then protected_body_made _ _ _ always (codes "body") _
      (identifier_kept protected_body_made _ _ _ always (λ p. p.name) _
      (λ name. opened_is left protected_body_made _ is_behind (λ p. operations_fit sequence_fits p.operations) always _
      (λ m e. last_before protected_body_made _ (word (codes "end")) end_behind always (λ p. p.operations) (flat_map (operation_body_written sequence_written))
      (list_all (operation_body_fits sequence_fits m)) ends_operations (items_of begins_operation (operation_body_of (below left) deeper)) _
      (operations_inside left m deeper e known) (λ l ls. refl)
      (λ operation_bodies. word_then protected_body_made _ end_behind _ always (codes "end") _
      (respelt_by protected_body_made _ (λ p. end_name_written p.named_at_end name ++ semicolon) end_behind (λ p. true) always _
      (plain_before protected_body_made _ (delimiter (codes ";")) _ always (λ p. p.named_at_end) (λ b. end_name_written b name) shapeless (not_word name.text)
      (end_name_of name.text) _ (end_name_exact name) (λ l ls. refl) _ (λ b. refl)
      (λ named. delimiter_ends protected_body_made _ (codes ";") (record { place = place; name = name; operations = operation_bodies; named_at_end = named })
      ((((tt, refl), refl), refl), refl)
      (λ j p. rw (p.0.0.0.1, p.0.0.1, p.0.1, p.1) refl)))
      (λ p q. rw (q.0.1) refl))))))

  protected_body_whole_exact : Rest protected_body_made Any (protected_body_written sequence_written) (protected_body_fits sequence_fits left) always
      (the_word (codes "protected") >>= protected_body_of left sequence deeper)
  protected_body_whole_exact =
      word_kept protected_body_made Any protected_body_behind (protected_body_fits sequence_fits left) always (λ p. p.place) (codes "protected")
      (protected_body_of left sequence deeper) protected_body_exact

  pub protected_sound : SoundDeclaration left (any_protected_of left sequence deeper)
  unfolding any_protected_of
  protected_sound =
      forked (the_word (codes "protected")) (sees_word (codes "body")) (protected_body_of left sequence deeper) (protected_of left)
      (one_form protected_body_made protected_body_whole_exact (λ p. refl) (λ p. refl))
      (one_form protected_made (protected_whole_exact left) (λ p. refl) (λ p. refl))

  pub protected_body_complete : (p : ProtectedBody Sequence) (ls r : List Lexeme) → protected_body_fits sequence_fits left p ≡ true
      → Leads (protected_body_written sequence_written p) ls r
      → any_protected_of left sequence deeper ls ≡ done (declarations.ProtectedBody p) r
  unfolding any_protected_of
  protected_body_complete p ls r okay l =
      first_form (the_word (codes "protected")) (sees_word (codes "body")) (protected_body_of left sequence deeper) (protected_of left) protected_body_exact
      (λ p ls r l. sees_word_first (codes "body") (identifier_written p.name ∷ word (codes "is") ∷ is_behind p) ls r l) ls (protected_body_made p) r
      (protected_body_whole_exact.complete p ls r tt okay l refl)

  pub protected_complete : (p : ProtectedDeclaration) (ls r : List Lexeme) → protected_fits left p ≡ true → Leads (protected_written p) ls r
      → any_protected_of left sequence deeper ls ≡ done (declarations.Protected p) r
  unfolding any_protected_of
  protected_complete p ls r okay l =
      second_form (the_word (codes "protected")) (sees_word (codes "body")) (protected_body_of left sequence deeper) (protected_of left) (protected_exact left)
      protected_no_body ls (declarations.Protected p) r ((protected_whole_exact left).complete p ls r tt okay l refl)
