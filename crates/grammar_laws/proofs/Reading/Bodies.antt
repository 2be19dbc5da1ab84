-- Bodies (3.11.1, 6.3, 9.4, 9.5.2), given that the sequences in them are read as they are written: the `is` of one takes a level.
use Rattle.std.proofs.Common.{◌≡◌, ℕ, zero, suc, Bool, true, false, cond, ◌&&◌, List, ◌∷◌, ◌++◌, refl, subst, codes}
use Rattle.std.specs.Prelude.{flat_map}
use Rattle.std.specs.List.{list_all}
use Rattle.std.proofs.lemmas.Bool.{not-true}
use Rattle.ann_base.specs.declared.places.Place.{Place}
use Rattle.ada_lex.specs.Reserved.{is_reserved}
use Rattle.ada_tree.specs.declared.names.Identifier.{Identifier}
use Rattle.ada_tree.specs.declared.statements.Sequence.{Sequence}
use Rattle.ada_tree.specs.declared.statements.SequenceRole.{SequenceRole}
use Rattle.ada_tree.specs.declared.statements.SequenceRole.TheVariants as role
use Rattle.ada_tree.specs.declared.declarations.Body.{Body}
use Rattle.ada_tree.specs.declared.declarations.EntryHead.{EntryHead}
use Rattle.ada_tree.specs.declared.declarations.OperationBody.{OperationBody}
use Rattle.ada_tree.specs.declared.declarations.OperationBody.TheVariants as bodies
use Rattle.ada_tree.specs.declared.declarations.SubprogramSpecification.{SubprogramSpecification}
use Rattle.ada_tree.specs.Written.{Written, Lexeme, word, delimiter, end_name_written}
use Rattle.ada_tree.specs.Spelling.{sequence_written}
use Rattle.ada_tree.specs.SpellingStatements.{semicolon}
use Rattle.ada_tree.specs.SpellingDeclarations.{specification_written, entry_head_written, body_written, operation_body_written}
use Rattle.ada_tree.specs.Shape.{sequence_fits}
use Rattle.ada_tree.specs.ShapeExpressions.{within}
use Rattle.ada_tree.specs.ShapeDeclarations.{specification_fits, entry_head_fits, body_fits, operation_body_fits}
use Rattle.ada_grammar.specs.Reading.{Read, Parser, and_then, ◌>>=◌, pure, nothing, too_deep, starts, sees_word, end_name_of, opening_is_of, items_of}
use Rattle.ada_grammar.specs.ReadingStatements.{begins_statement}
use Rattle.ada_grammar.specs.ReadingDeclarations.{begins_operation, entry_head_of, specification_of}
use Rattle.ada_grammar.specs.ReadingBodies.{body_of, subprogram_operation_of, entry_operation_of, operation_body_of}
use Rattle.grammar_laws.specs.Leads.{Leads}
use Rattle.grammar_laws.proofs.Reading.Leading.{leads_through}
use Rattle.grammar_laws.proofs.Reading.Exact.{done, Rest, Any, itself, Exact, field, closing, first_is, listed}
use Rattle.grammar_laws.proofs.Reading.Tokens.{always, shapeless, not_word, word_then}
use Rattle.grammar_laws.proofs.Reading.Choices.{Sound, either, one_form}
use Rattle.grammar_laws.proofs.Reading.Ends.{ends_expression, ends_sequence}
use Rattle.grammar_laws.proofs.Reading.Selects.{ReadsDeeper}
use Rattle.grammar_laws.proofs.Reading.ClausesEnds.{ends_operations, ends_specification}
use Rattle.grammar_laws.proofs.Reading.ClausesSteps.{delimiter_ends, last_before, plain_before, end_name_exact, respelt_by}
use Rattle.grammar_laws.proofs.Reading.ClausesSpecifications.{specification_exact, specification_first, entry_head_exact, entry_head_begins}

-- ---- "is": where no level is left, none is opened

never_opened : {X : Type 0} (F : Type 0) (ls : List Lexeme) (k : Place → Parser X) (x : X) (r : List Lexeme) → and_then (opening_is_of zero ls) k ≡ done x r → F
unfolding opening_is_of
never_opened {X} F ls k x r e = by_test (sees_word (codes "is") ls) e
  where
    by_test : (v : Bool) → and_then (cond {A = Read Place} v (too_deep ls) (nothing ls)) k ≡ done x r → F
    by_test true e = absurd cc
    by_test false e = absurd cc

pub opened_is : {X I : Type 0} (left : ℕ) (make : I → X) (P : I → Type 0) (w : I → List Written) (fits : I → ℕ → Bool) (ends : List Lexeme → Bool)
    (k : Parser X)
    → ((m : ℕ) → left ≡ suc m → Rest make P w (λ i. fits i m) ends k)
    → Rest make P (λ i. word (codes "is") ∷ w i) (λ i. within left (fits i)) ends (opening_is_of left >>= (λ a. k))
unfolding opening_is_of
opened_is zero make P w fits ends k more = record {
  sound = λ ls x r e. never_opened _ ls (λ a. k) x r e;
  complete = λ i ls r p o l end. absurd cc;
}
opened_is (suc m) make P w fits ends k more = word_then make P w (λ i. fits i m) ends (codes "is") k (more m refl)

inside_exact : (left m : ℕ) (sequence : SequenceRole → Parser Sequence) → left ≡ suc m → ReadsDeeper left sequence
    → Exact (λ q. sequence_written q role.Body) (λ q. sequence_fits q role.Body m) (ends_sequence role.Body) (sequence role.Body)
inside_exact left m sequence e known =
    let at : ReadsDeeper (suc m) sequence = subst (λ (z : ℕ). ReadsDeeper z sequence) e known in
    at role.Body

-- ---- a body

abbrev end_behind : Identifier → Body Sequence → List Written
end_behind name b = end_name_written b.named_at_end name ++ semicolon

abbrev is_behind : Identifier → Body Sequence → List Written
is_behind name b = sequence_written b.sequence role.Body ++ word (codes "end") ∷ end_behind name b

pub body_exact : (left : ℕ) (sequence : SequenceRole → Parser Sequence) → ReadsDeeper left sequence → (name : Identifier)
    → Rest itself Any (body_written sequence_written name) (body_fits sequence_fits left) always (body_of left sequence name.text)
unfolding body_of starts begins_statement is_reserved
body_exact left sequence known name =
    opened_is left itself Any (is_behind name) (λ b. sequence_fits b.sequence role.Body) always _
    (λ m e. last_before itself Any (word (codes "end")) (end_behind name) always (λ b. b.sequence) (λ q. sequence_written q role.Body)
    (λ q. sequence_fits q role.Body m) (ends_sequence role.Body) (sequence role.Body) _
    (inside_exact left m sequence e known) (λ l ls. refl)
    (λ inside. word_then itself _ (end_behind name) _ always (codes "end") _
    (plain_before itself _ (delimiter (codes ";")) _ always (λ b. b.named_at_end) (λ b. end_name_written b name) shapeless (not_word name.text)
    (end_name_of name.text) _ (end_name_exact name) (λ l ls. refl) _ (λ b. refl)
    (λ named. delimiter_ends itself _ (codes ";") (record { sequence = inside; named_at_end = named }) ((tt, refl), refl) (λ j p. rw (p.0.1, p.1) refl)))))

-- ---- a specification, or the head of an entry, and a body

abbrev pub Specified : Type 0
Specified = SubprogramSpecification × Body Sequence

abbrev pub specified_written : Specified → List Written
specified_written x = specification_written x.0 ++ body_written sequence_written x.0.name x.1

abbrev pub specified_fits : ℕ → Specified → Bool
specified_fits left x = specification_fits left x.0 && body_fits sequence_fits left x.1

abbrev pub specified_behind : Specified → List Written
specified_behind x = body_written sequence_written x.0.name x.1

abbrev Headed : Type 0
Headed = EntryHead × Body Sequence

abbrev headed_behind : Headed → List Written
headed_behind x = body_written sequence_written x.0.name x.1

abbrev subprogram_body : Specified → OperationBody Sequence
subprogram_body x = bodies.Subprogram x.0 x.1

abbrev entry_body : Headed → OperationBody Sequence
entry_body x = bodies.Entry x.0 x.1

module _ (left : ℕ) (sequence : SequenceRole → Parser Sequence) (known : ReadsDeeper left sequence) where
  -- the body behind a specification
  pub specified_body_exact : {X : Type 0} (make : Specified → X) (specification : SubprogramSpecification)
      → Rest make (λ x. Any x × (specification ≡ x.0)) specified_behind (λ x. body_fits sequence_fits left x.1) always
      (body_of left sequence specification.name.text >>= λ body. pure (make (specification, body)))
  specified_body_exact make specification =
      respelt_by make _ (λ x. body_written sequence_written specification.name x.1) specified_behind (λ x. body_fits sequence_fits left x.1) always _
      (closing make _ always (λ x. x.1) (body_written sequence_written specification.name) (body_fits sequence_fits left)
      (body_of left sequence specification.name.text) (λ body. (specification, body)) (body_exact left sequence known specification.name)
      (λ b. (tt, refl)) (λ b. refl) (λ b x p e. rw (p.1, e) refl))
      (λ x p. rw (p.1) refl)

  pub specified_exact : {X : Type 0} (make : Specified → X)
      → Rest make Any specified_written (specified_fits left) always
      (specification_of left >>= λ specification. body_of left sequence specification.name.text >>= λ body. pure (make (specification, body)))
  unfolding starts
  specified_exact make =
      field make Any specified_behind (λ x. body_fits sequence_fits left x.1) always (λ x. x.0) specification_written
      (specification_fits left) ends_specification (specification_of left) _ (specification_exact left)
      (λ x ls r p l end. first_is ends_specification true (word (codes "is")) (λ l ls. refl) (is_behind x.0.name x.1) ls r l)
      (λ specification. specified_body_exact make specification)

  headed_body_exact : (head : EntryHead)
      → Rest entry_body (λ x. Any x × (head ≡ x.0)) headed_behind (λ x. body_fits sequence_fits left x.1) always
      (body_of left sequence head.name.text >>= λ body. pure (entry_body (head, body)))
  headed_body_exact head =
      respelt_by entry_body _ (λ x. body_written sequence_written head.name x.1) headed_behind (λ x. body_fits sequence_fits left x.1) always _
      (closing entry_body _ always (λ x. x.1) (body_written sequence_written head.name) (body_fits sequence_fits left) (body_of left sequence head.name.text)
      (λ body. (head, body)) (body_exact left sequence known head.name)
      (λ b. (tt, refl)) (λ b. refl) (λ b x p e. rw (p.1, e) refl))
      (λ x p. rw (p.1) refl)

  -- ---- the operations of a protected body

  subprogram_operation_exact : Rest subprogram_body Any specified_written (specified_fits left) always (subprogram_operation_of left sequence)
  unfolding subprogram_operation_of
  subprogram_operation_exact = specified_exact subprogram_body

  entry_operation_exact : Rest entry_body Any (λ x. entry_head_written x.0 ++ headed_behind x)
      (λ x. entry_head_fits left x.0 && body_fits sequence_fits left x.1) always (entry_operation_of left sequence)
  unfolding entry_operation_of starts
  entry_operation_exact =
      field entry_body Any headed_behind (λ x. body_fits sequence_fits left x.1) always (λ x. x.0) entry_head_written (entry_head_fits left) ends_expression
      (entry_head_of left) _ (entry_head_exact left)
      (λ x ls r p l end. first_is ends_expression true (word (codes "is")) (λ l ls. refl) (is_behind x.0.name x.1) ls r l)
      (λ head. headed_body_exact head)

  operation_body_sound : Sound itself (operation_body_written sequence_written) (operation_body_fits sequence_fits left) (operation_body_of left sequence)
  unfolding operation_body_of
  operation_body_sound =
      either (sees_word (codes "entry")) (one_form entry_body entry_operation_exact (λ x. refl) (λ x. refl))
      (one_form subprogram_body subprogram_operation_exact (λ x. refl) (λ x. refl))

  operation_body_complete : (o : OperationBody Sequence) (ls r : List Lexeme) → operation_body_fits sequence_fits left o ≡ true
      → Leads (operation_body_written sequence_written o) ls r → operation_body_of left sequence ls ≡ done o r
  unfolding operation_body_of starts
  operation_body_complete (bodies.Subprogram specification body) ls r okay l =
      let t = leads_through (specification_written specification) (body_written sequence_written specification.name body) ls r l in
      let e = specification_first (sees_word (codes "entry")) false (λ p l ls. refl) (λ p l ls. refl) (λ p l ls. refl) specification ls t.middle t.first in
      rw e (subprogram_operation_exact.complete (specification, body) ls r tt okay l refl)
  operation_body_complete (bodies.Entry head body) ls r okay l =
      let t = leads_through (entry_head_written head) (body_written sequence_written head.name body) ls r l in
      rw (entry_head_begins head ls t.middle t.first) (entry_operation_exact.complete (head, body) ls r tt okay l refl)

  pub operation_body_exact : Exact (operation_body_written sequence_written) (operation_body_fits sequence_fits left) always (operation_body_of left sequence)
  operation_body_exact = record { sound = operation_body_sound.by; complete = λ o ls r q okay l end. operation_body_complete o ls r okay l }

pub operation_body_begins : (o : OperationBody Sequence) (ls r : List Lexeme) → Leads (operation_body_written sequence_written o) ls r
    → begins_operation ls ≡ true
unfolding starts
operation_body_begins (bodies.Subprogram specification body) ls r l =
    let t = leads_through (specification_written specification) (body_written sequence_written specification.name body) ls r l in
    specification_first begins_operation true (λ p l ls. refl) (λ p l ls. refl) (λ p l ls. refl) specification ls t.middle t.first
operation_body_begins (bodies.Entry head body) ls r l =
    let t = leads_through (entry_head_written head) (body_written sequence_written head.name body) ls r l in
    rw (entry_head_begins head ls t.middle t.first) refl

pub operation_bodies_exact : (left : ℕ) (sequence : SequenceRole → Parser Sequence) → ReadsDeeper left sequence
    → Exact (flat_map (operation_body_written sequence_written)) (list_all (operation_body_fits sequence_fits left)) ends_operations
    (items_of begins_operation (operation_body_of left sequence))
unfolding starts
operation_bodies_exact left sequence known =
    listed begins_operation (operation_body_written sequence_written) (operation_body_fits sequence_fits left) always ends_operations
    (operation_body_of left sequence) (operation_body_exact left sequence known) operation_body_begins refl
    (λ r e. refl) (λ r e. refl) (λ r e. not-true (begins_operation r) e)
