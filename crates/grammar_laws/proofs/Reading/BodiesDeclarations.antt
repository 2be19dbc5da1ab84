-- All declarations (3.1), given that the sequences in them are read as they are written.
use Rattle.std.proofs.Common.{◌≡◌, ℕ, true, false, List, ◌∷◌, ◌++◌, refl, ◌∙◌, codes}
use Rattle.ann_base.specs.declared.places.Place.{Place}
use Rattle.ada_lex.specs.Reserved.{is_reserved}
use Rattle.ada_tree.specs.declared.statements.Sequence.{Sequence}
use Rattle.ada_tree.specs.declared.statements.SequenceRole.{SequenceRole}
use Rattle.ada_tree.specs.declared.declarations.Declaration.{Declaration}
use Rattle.ada_tree.specs.declared.declarations.Declaration.TheVariants as declarations
use Rattle.ada_tree.specs.declared.declarations.SubprogramSpecification.{SubprogramSpecification}
use Rattle.ada_tree.specs.Written.{Written, Lexeme, word, word_at, identifier_written, name_written}
use Rattle.ada_tree.specs.Spelling.{sequence_written}
use Rattle.ada_tree.specs.SpellingStatements.{semicolon, indication_written}
use Rattle.ada_tree.specs.SpellingDeclarations.{definition_written, specification_written, body_written, declaration_written}
use Rattle.ada_tree.specs.Shape.{sequence_fits}
use Rattle.ada_tree.specs.ShapeDeclarations.{declaration_fits}
use Rattle.ada_grammar.specs.Reading.{Parser, starts, sees_word, sees_identifier, below}
use Rattle.ada_grammar.specs.ReadingDeclarations.{type_of, subtype_of, use_of}
use Rattle.ada_grammar.specs.ReadingBodies.{subprogram_of, any_task_of, any_protected_of, declaration_of, begins_declaration}
use Rattle.grammar_laws.specs.Leads.{Leads}
use Rattle.grammar_laws.proofs.Reading.Leading.{leads_through}
use Rattle.grammar_laws.proofs.Reading.Exact.{done, itself, Exact, first_is}
use Rattle.grammar_laws.proofs.Reading.Tokens.{always}
use Rattle.grammar_laws.proofs.Reading.Choices.{Sound, either, one_form}
use Rattle.grammar_laws.proofs.Reading.StatementsSteps.{begun_by}
use Rattle.grammar_laws.proofs.Reading.Selects.{ReadsDeeper}
use Rattle.grammar_laws.proofs.Reading.ClausesObjects.{named_declaration_sound, object_complete, exception_complete, object_begins, exception_begins, use_exact}
use Rattle.grammar_laws.proofs.Reading.ClausesTypes.{type_exact, subtype_exact}
use Rattle.grammar_laws.proofs.Reading.ClausesSpecifications.{specification_first}
use Rattle.grammar_laws.proofs.Reading.ClausesTasks.{task_behind, protected_behind}
use Rattle.grammar_laws.proofs.Reading.BodiesForms.{protected_body_behind, subprogram_sound, subprogram_complete, subprogram_body_complete, task_sound}
use Rattle.grammar_laws.proofs.Reading.BodiesForms.{task_body_complete, task_complete, protected_sound, protected_body_complete, protected_complete}

module _ (left : ℕ) (sequence : SequenceRole → Parser Sequence) (deeper : SequenceRole → Parser Sequence) (known : ReadsDeeper left sequence)
    (further : ReadsDeeper (below left) deeper) where
  declaration_sound : Sound itself (declaration_written sequence_written) (declaration_fits sequence_fits left) (declaration_of left sequence deeper)
  unfolding declaration_of
  declaration_sound =
      either sees_identifier (named_declaration_sound sequence_written sequence_fits left)
      (either (sees_word (codes "type")) (one_form (λ t. declarations.Type t) (type_exact left) (λ t. refl) (λ t. refl))
      (either (sees_word (codes "subtype")) (one_form (λ s. declarations.Subtype s) (subtype_exact left) (λ s. refl) (λ s. refl))
      (either (sees_word (codes "task")) (task_sound left sequence known)
      (either (sees_word (codes "protected")) (protected_sound left sequence deeper further)
      (either (sees_word (codes "use")) (one_form (λ x. declarations.Use x.0 x.1) use_exact (λ x. refl) (λ x. refl))
      (subprogram_sound left sequence known))))))

  -- a specification stands there, so none of the others does
  specified_there : (s : SubprogramSpecification) (w : List Written) (ls r : List Lexeme) → Leads (specification_written s ++ w) ls r
      → declaration_of left sequence deeper ls ≡ subprogram_of left sequence ls
  unfolding declaration_of starts is_reserved
  specified_there s w ls r l =
      let t = leads_through (specification_written s) w ls r l in
      rw (
        specification_first sees_identifier false (λ p l ls. refl) (λ p l ls. refl) (λ p l ls. refl) s ls t.middle t.first,
        specification_first (sees_word (codes "type")) false (λ p l ls. refl) (λ p l ls. refl) (λ p l ls. refl) s ls t.middle t.first,
        specification_first (sees_word (codes "subtype")) false (λ p l ls. refl) (λ p l ls. refl) (λ p l ls. refl) s ls t.middle t.first,
        specification_first (sees_word (codes "task")) false (λ p l ls. refl) (λ p l ls. refl) (λ p l ls. refl) s ls t.middle t.first,
        specification_first (sees_word (codes "protected")) false (λ p l ls. refl) (λ p l ls. refl) (λ p l ls. refl) s ls t.middle t.first,
        specification_first (sees_word (codes "use")) false (λ p l ls. refl) (λ p l ls. refl) (λ p l ls. refl) s ls t.middle t.first,
      )
      refl

  tasks_there : (p : Place) (ws : List Written) (ls r : List Lexeme) → Leads (word_at p (codes "task") ∷ ws) ls r
      → declaration_of left sequence deeper ls ≡ any_task_of left sequence ls
  unfolding declaration_of starts is_reserved
  tasks_there p ws ls r l = begun_by (word_at p (codes "task")) (declaration_of left sequence deeper) (any_task_of left sequence) (λ l ls. refl) ws ls r l

  protected_there : (p : Place) (ws : List Written) (ls r : List Lexeme) → Leads (word_at p (codes "protected") ∷ ws) ls r
      → declaration_of left sequence deeper ls ≡ any_protected_of left sequence deeper ls
  unfolding declaration_of starts is_reserved
  protected_there p ws ls r l =
      begun_by (word_at p (codes "protected")) (declaration_of left sequence deeper) (any_protected_of left sequence deeper) (λ l ls. refl) ws ls r l

  declaration_complete : (d : Declaration Sequence) (ls r : List Lexeme) → declaration_fits sequence_fits left d ≡ true
      → Leads (declaration_written sequence_written d) ls r → declaration_of left sequence deeper ls ≡ done d r
  unfolding declaration_of starts is_reserved
  declaration_complete (declarations.Object o) ls r okay l = rw (object_begins o ls r l) (object_complete left o ls r okay l)
  declaration_complete (declarations.Type t) ls r okay l =
      begun_by (word_at t.place (codes "type")) (declaration_of left sequence deeper) (type_of left) (λ l ls. refl)
      (identifier_written t.name ∷ word (codes "is") ∷ (definition_written t.definition ++ semicolon)) ls r l ∙ (type_exact left).complete t ls r tt okay l refl
  declaration_complete (declarations.Subtype s) ls r okay l =
      begun_by (word_at s.place (codes "subtype")) (declaration_of left sequence deeper) (subtype_of left) (λ l ls. refl)
      (identifier_written s.name ∷ word (codes "is") ∷ (indication_written s.subtype ++ semicolon)) ls r l ∙ (subtype_exact left).complete s ls r tt okay l refl
  declaration_complete (declarations.Exception names) ls r okay l = rw (exception_begins names ls r l) (exception_complete left names ls r l)
  declaration_complete (declarations.Subprogram s) ls r okay l = specified_there s semicolon ls r l ∙ subprogram_complete left sequence known s ls r okay l
  declaration_complete (declarations.SubprogramBody s body) ls r okay l =
      specified_there s (body_written sequence_written s.name body) ls r l ∙ subprogram_body_complete left sequence known (s, body) ls r okay l
  declaration_complete (declarations.Task t) ls r okay l = tasks_there t.place (task_behind t) ls r l ∙ task_complete left sequence known t ls r okay l
  declaration_complete (declarations.TaskBody place name body) ls r okay l =
      tasks_there place (word (codes "body") ∷ identifier_written name ∷ body_written sequence_written name body) ls r l
      ∙ task_body_complete left sequence known (place, (name, body)) ls r okay l
  declaration_complete (declarations.Protected p) ls r okay l =
      protected_there p.place (protected_behind p) ls r l ∙ protected_complete left sequence deeper further p ls r okay l
  declaration_complete (declarations.ProtectedBody p) ls r okay l =
      protected_there p.place (protected_body_behind p) ls r l ∙ protected_body_complete left sequence deeper further p ls r okay l
  declaration_complete (declarations.Use place name) ls r okay l =
      begun_by (word_at place (codes "use")) (declaration_of left sequence deeper) use_of (λ l ls. refl) (name_written name ++ semicolon) ls r l
      ∙ use_exact.complete (place, name) ls r tt refl l refl

pub declaration_exact : (left : ℕ) (sequence deeper : SequenceRole → Parser Sequence) → ReadsDeeper left sequence → ReadsDeeper (below left) deeper
    → Exact (declaration_written sequence_written) (declaration_fits sequence_fits left) always (declaration_of left sequence deeper)
declaration_exact left sequence deeper known further =
    record {
      sound = (declaration_sound left sequence deeper known further).by;
      complete = λ d ls r q okay l end. declaration_complete left sequence deeper known further d ls r okay l;
    }

-- ---- what declarations begin with

specified_begins : (s : SubprogramSpecification) (w : List Written) (ls r : List Lexeme) → Leads (specification_written s ++ w) ls r
    → begins_declaration ls ≡ true
unfolding begins_declaration starts is_reserved
specified_begins s w ls r l =
    let t = leads_through (specification_written s) w ls r l in
    specification_first begins_declaration true (λ p l ls. refl) (λ p l ls. refl) (λ p l ls. refl) s ls t.middle t.first

pub declaration_begins : (d : Declaration Sequence) (ls r : List Lexeme) → Leads (declaration_written sequence_written d) ls r → begins_declaration ls ≡ true
unfolding begins_declaration starts is_reserved
declaration_begins (declarations.Object o) ls r l = rw (object_begins o ls r l) refl
declaration_begins (declarations.Type t) ls r l =
    first_is begins_declaration true (word_at t.place (codes "type")) (λ l ls. refl)
    (identifier_written t.name ∷ word (codes "is") ∷ (definition_written t.definition ++ semicolon)) ls r l
declaration_begins (declarations.Subtype s) ls r l =
    first_is begins_declaration true (word_at s.place (codes "subtype")) (λ l ls. refl)
    (identifier_written s.name ∷ word (codes "is") ∷ (indication_written s.subtype ++ semicolon)) ls r l
declaration_begins (declarations.Exception names) ls r l = rw (exception_begins names ls r l) refl
declaration_begins (declarations.Subprogram s) ls r l = specified_begins s semicolon ls r l
declaration_begins (declarations.SubprogramBody s body) ls r l = specified_begins s (body_written sequence_written s.name body) ls r l
declaration_begins (declarations.Task t) ls r l = first_is begins_declaration true (word_at t.place (codes "task")) (λ l ls. refl) (task_behind t) ls r l
declaration_begins (declarations.TaskBody place name body) ls r l =
    first_is begins_declaration true (word_at place (codes "task")) (λ l ls. refl)
    (word (codes "body") ∷ identifier_written name ∷ body_written sequence_written name body) ls r l
declaration_begins (declarations.Protected p) ls r l =
    first_is begins_declaration true (word_at p.place (codes "protected")) (λ l ls. refl) (protected_behind p) ls r l
declaration_begins (declarations.ProtectedBody p) ls r l =
    first_is begins_declaration true (word_at p.place (codes "protected")) (λ l ls. refl) (protected_body_behind p) ls r l
declaration_begins (declarations.Use place name) ls r l =
    first_is begins_declaration true (word_at place (codes "use")) (λ l ls. refl) (name_written name ++ semicolon) ls r l
