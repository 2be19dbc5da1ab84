-- Sequences: statements, their handlers, and the declarations before them (11.2, 3.11).
use Rattle.std.proofs.Common.{◌≡◌, ℕ, zero, suc, Bool, true, false, not, ◌&&◌, List, [], ◌∷◌, ◌++◌, Ok, Err, refl, sym, ap, subst, ◌∙◌, codes}
use Rattle.std.specs.Prelude.{flat_map}
use Rattle.std.proofs.lemmas.Bool.{false≢true, not-true}
use Rattle.std.specs.List.{list_all}
use Rattle.ann_base.specs.declared.places.Place.{Place}
use Rattle.ada_lex.specs.Reserved.{is_reserved}
use Rattle.ada_tree.specs.declared.names.OneOrMore.{OneOrMore}
use Rattle.ada_tree.specs.declared.statements.Statement.{Statement}
use Rattle.ada_tree.specs.declared.statements.Handler.{Handler}
use Rattle.ada_tree.specs.declared.statements.HandledExceptions.{HandledExceptions}
use Rattle.ada_tree.specs.declared.statements.Sequence.{Sequence}
use Rattle.ada_tree.specs.declared.statements.Sequence.TheViews.{out-Sequence, out-roll-Sequence, roll-out-Sequence}
use Rattle.ada_tree.specs.declared.statements.SequenceParts.{SequenceParts}
use Rattle.ada_tree.specs.declared.statements.SequenceRole.{SequenceRole}
use Rattle.ada_tree.specs.declared.statements.SequenceRole.TheVariants as role
use Rattle.ada_tree.specs.declared.declarations.Declaration.{Declaration}
use Rattle.ada_tree.specs.Written.{Written, Lexeme, word, delimiter, all_written}
use Rattle.ada_tree.specs.SpellingStatements.{exceptions_written, statements_written, statement_written, handler_written}
use Rattle.ada_tree.specs.SpellingDeclarations.{declaration_written}
use Rattle.ada_tree.specs.Spelling.{handlers_written, parts_written, sequence_written}
use Rattle.ada_tree.specs.ShapeExpressions.{all_fit}
use Rattle.ada_tree.specs.ShapeStatements.{statement_fits, statements_fit, handler_fits}
use Rattle.ada_tree.specs.ShapeDeclarations.{declaration_fits}
use Rattle.ada_tree.specs.Shape.{sequence_fits_by, sequence_fits}
use Rattle.ada_tree.proofs.SequenceFolds.{sequence_is_written}
use Rattle.ada_tree.proofs.SequenceFits.{sequence_is_fit}
use Rattle.ada_grammar.specs.Reading.{Read, Parser, and_then, pure, choose, starts, sees_word, below, items_of, ◌>>=◌}
use Rattle.ada_grammar.specs.ReadingSimple.{exceptions_of}
use Rattle.ada_grammar.specs.ReadingStatements.{begins_statement}
use Rattle.ada_grammar.specs.ReadingBodies.{begins_declaration, declaration_of}
use Rattle.ada_grammar.specs.ReadingSequences.{made, statement_at, statement_of, statements_of, handler_of, given_handlers_of, handlers_of, declarations_of}
use Rattle.ada_grammar.specs.ReadingSequences.{plain_of, handled_behind_of, whole_body_of, parts_of, no_sequence, sequence_of, further_in, inside_of}
use Rattle.grammar_laws.specs.Leads.{Leads}
use Rattle.grammar_laws.proofs.Reading.Leading.{leads_through}
use Rattle.grammar_laws.proofs.Reading.Exact.{done, Rest, Any, itself, Exact, first_true, second_true, ready, field, plain, closing, first_is, listed}
use Rattle.grammar_laws.proofs.Reading.Tokens.{always, shapeless, not_word, word_then, sees_word_first, sees_word_at_first, seen_word}
use Rattle.grammar_laws.proofs.Reading.Choices.{Sound, either, one_form}
use Rattle.grammar_laws.proofs.Reading.Ends.{ends_statements, ends_sequence}
use Rattle.grammar_laws.proofs.Reading.ClausesEnds.{ends_exceptions}
use Rattle.grammar_laws.proofs.Reading.ClausesStatements.{exceptions_exact}
use Rattle.grammar_laws.proofs.Reading.StatementsSteps.{placed, delimited}
use Rattle.grammar_laws.proofs.Reading.StatementsBegin.{statement_begins}
use Rattle.grammar_laws.proofs.Reading.StatementForms.{statement_exact}
use Rattle.grammar_laws.proofs.Reading.Selects.{ReadsDeeper, no_level}
use Rattle.grammar_laws.proofs.Reading.BodiesDeclarations.{declaration_exact, declaration_begins}

-- ---- a sequence as its parts

abbrev rolled : SequenceParts Sequence → Sequence
rolled p = made p.declarations p.statements p.handlers

made_is_written : (p : SequenceParts Sequence) (at : SequenceRole) → sequence_written (rolled p) at ≡ parts_written sequence_written p at
made_is_written p at = sequence_is_written (rolled p) at ∙ ap (λ x. parts_written sequence_written x.parts at) (out-roll-Sequence (record { parts = p }))

made_is_fit : (p : SequenceParts Sequence) (at : SequenceRole) (left : ℕ) → sequence_fits (rolled p) at left ≡ sequence_fits_by sequence_fits p at left
made_is_fit p at left = sequence_is_fit (rolled p) at left ∙ ap (λ x. sequence_fits_by sequence_fits x.parts at left) (out-roll-Sequence (record { parts = p }))

made_again : (q : Sequence) → rolled (out-Sequence q).parts ≡ q
made_again q = roll-out-Sequence q

record AsParts (at : SequenceRole) (left : ℕ) (p : Parser Sequence) : Type 0 where
  sound : Sound rolled (λ x. parts_written sequence_written x at) (λ x. sequence_fits_by sequence_fits x at left) p
  complete : (x : SequenceParts Sequence) (ls r : List Lexeme) → sequence_fits_by sequence_fits x at left ≡ true
      → Leads (parts_written sequence_written x at) ls r → ends_sequence at r ≡ true → p ls ≡ done (rolled x) r

by_parts : (at : SequenceRole) (left : ℕ) (p : Parser Sequence) → AsParts at left p
    → Exact (λ q. sequence_written q at) (λ q. sequence_fits q at left) (ends_sequence at) p
by_parts at left p law = record {
  sound = λ ls x r e.
      let f = law.sound.by ls x r e in
      record {
        item = x;
        is = refl;
        fits = tt;
        leads =
            subst (λ (y : Sequence). Leads (sequence_written y at) ls r) f.is
            (subst (λ (ws : List Written). Leads ws ls r) (sym (made_is_written f.item at)) f.leads);
        shaped = subst (λ (y : Sequence). sequence_fits y at left ≡ true) f.is (made_is_fit f.item at left ∙ f.shaped);
      };
  complete = λ q ls r known o l end. by_part (out-Sequence q).parts q ls r (made_again q) o l end;
}
  where
    by_part : (x : SequenceParts Sequence) (q : Sequence) (ls r : List Lexeme) → rolled x ≡ q → sequence_fits q at left ≡ true
        → Leads (sequence_written q at) ls r → ends_sequence at r ≡ true → p ls ≡ done q r
    by_part x q ls r is o l end =
        subst (λ (y : Sequence). p ls ≡ done y r) is
        (law.complete x ls r
        (sym (made_is_fit x at left) ∙ subst (λ (y : Sequence). sequence_fits y at left ≡ true) (sym is) o)
        (subst (λ (ws : List Written). Leads ws ls r) (made_is_written x at) (subst (λ (y : Sequence). Leads (sequence_written y at) ls r) (sym is) l)) end)

-- ---- the same reading, put otherwise

same_reader : {X I : Type 0} {make : I → X} {P : I → Type 0} {w : I → List Written} {ok : I → Bool} {ends : List Lexeme → Bool} {p q : Parser X}
    → ((ls : List Lexeme) → p ls ≡ q ls) → Rest make P w ok ends p → Rest make P w ok ends q
same_reader same law = record {
  sound = λ ls x r e. law.sound ls x r (same ls ∙ e);
  complete = λ i ls r known o l end. sym (same ls) ∙ law.complete i ls r known o l end;
}

no_statement : (r : List Lexeme) → ends_statements r ≡ true → begins_statement r ≡ false
no_statement r end = not-true (begins_statement r) end

abbrev pub ends_declarations : List Lexeme → Bool
ends_declarations r = not (begins_declaration r)

abbrev Statements : Type 0
Statements = OneOrMore (Statement Sequence)

module _ (left : ℕ) (inner : SequenceRole → Parser Sequence) (deeper : SequenceRole → Parser Sequence) (known : ReadsDeeper left inner)
    (further : ReadsDeeper (below left) deeper) where
  abbrev fits : Statement Sequence → Bool
  fits s = statement_fits sequence_fits left s

  abbrev w : Statement Sequence → List Written
  w s = statement_written sequence_written s

  one_statement : Exact w fits always (statement_of left inner deeper)
  unfolding statement_of
  one_statement = at left inner deeper known further
    where
      at : (left : ℕ) (inner deeper : SequenceRole → Parser Sequence) → ReadsDeeper left inner → ReadsDeeper (below left) deeper
          → Exact (statement_written sequence_written) (statement_fits sequence_fits left) always (statement_at left inner deeper left)
      at zero inner deeper known further = no_level begins_statement (statement_written sequence_written) always
      at (suc m) inner deeper known further = statement_exact m inner deeper known further

  all_statements : Exact (all_written w) (all_fit fits) ends_statements (statements_of left inner deeper)
  unfolding statements_of starts begins_statement
  all_statements =
      field itself Any (λ xs. flat_map w xs.others) (λ xs. list_all fits xs.others) ends_statements (λ xs. xs.first) w fits always
      (statement_of left inner deeper) _ one_statement
      (λ xs ls r p l end. refl)
      (λ first. closing itself (λ xs. Any xs × (first ≡ xs.first)) ends_statements (λ xs. xs.others) (flat_map w) (list_all fits)
      (items_of begins_statement (statement_of left inner deeper))
      (λ others. record { first = first; others = others })
      (listed begins_statement w fits always ends_statements (statement_of left inner deeper) one_statement statement_begins refl (λ r e. refl)
      (λ r e. refl) no_statement)
      (λ others. (tt, refl)) (λ others. refl) (λ others xs p e. rw (p.1, e) refl))

  plain_parts : Rest (λ (ss : Statements). made [] ss []) Any (all_written w) (all_fit fits) ends_statements (plain_of left inner deeper)
  unfolding plain_of
  plain_parts =
      closing (λ (ss : Statements). made [] ss []) Any ends_statements itself (all_written w) (all_fit fits)
      (statements_of left inner deeper) itself all_statements (λ a. tt) (λ a. refl) (λ a i p e. e)

  plain_complete : (x : SequenceParts Sequence) (ls r : List Lexeme) → sequence_fits_by sequence_fits x role.Statements left ≡ true
      → Leads (parts_written sequence_written x role.Statements) ls r → ends_statements r ≡ true
      → plain_of left inner deeper ls ≡ done (rolled x) r
  plain_complete x ls r o l end = from x.declarations x.statements x.handlers o l
    where
      from : (d : List (Declaration Sequence)) (s : Statements) (h : List (Handler Sequence))
          → sequence_fits_by sequence_fits (record { declarations = d; statements = s; handlers = h }) role.Statements left ≡ true
          → Leads (all_written w s) ls r → plain_of left inner deeper ls ≡ done (made d s h) r
      from [] s [] o l = plain_parts.complete s ls r tt o l end
      from [] s (x ∷ h) o l = absurd (false≢true o)
      from (x ∷ d) s h o l = absurd (false≢true o)

  statements_exact : Exact (λ q. sequence_written q role.Statements) (λ q. sequence_fits q role.Statements left) ends_statements (plain_of left inner deeper)
  statements_exact =
      by_parts role.Statements left (plain_of left inner deeper)
      (record {
        sound = one_form (λ (ss : Statements). record { declarations = []; statements = ss; handlers = [] }) plain_parts (λ ss. refl) (λ ss. refl);
        complete = plain_complete;
      })

  -- ---- handlers

  same_handler : (place : Place) (exceptions : HandledExceptions) (ls : List Lexeme)
      → and_then {B = Handler Sequence} (plain_of left inner deeper ls) (λ q. pure (record { place = place; exceptions = exceptions; statements = q }))
      ≡ and_then {B = Handler Sequence} (statements_of left inner deeper ls)
      (λ inside. pure (record { place = place; exceptions = exceptions; statements = made [] inside [] }))
  unfolding plain_of
  same_handler place exceptions ls = by_answer (statements_of left inner deeper ls)
    where
      by_answer : (a : Read Statements)
          → and_then {B = Handler Sequence} (and_then a (λ inside. pure (made [] inside [])))
          (λ q. pure (record { place = place; exceptions = exceptions; statements = q }))
          ≡ and_then {B = Handler Sequence} a (λ inside. pure (record { place = place; exceptions = exceptions; statements = made [] inside [] }))
      by_answer (Ok p) = refl
      by_answer (Err why) = refl

  one_handler : Exact (handler_written sequence_written) (handler_fits sequence_fits left) ends_statements (handler_of left inner deeper)
  unfolding handler_of starts
  one_handler =
      placed (λ h. h.place) (codes "when")
      (λ place. plain itself (λ h. Any h × (place ≡ h.place)) (λ h. delimiter (codes "=>") ∷ statements_written sequence_written h.statements)
      (handler_fits sequence_fits left) ends_statements
      (λ h. h.exceptions) exceptions_written shapeless ends_exceptions exceptions_of _ exceptions_exact (λ x. refl)
      (λ h ls r p l end. first_is ends_exceptions true (delimiter (codes "=>")) (λ k ks. refl) (statements_written sequence_written h.statements) ls r l)
      (λ exceptions. delimited (codes "=>")
      (same_reader (same_handler place exceptions)
      (closing itself (λ h. (Any h × (place ≡ h.place)) × (exceptions ≡ h.exceptions)) ends_statements (λ h. h.statements) (statements_written sequence_written)
      (statements_fit sequence_fits left) (plain_of left inner deeper)
      (λ q. record { place = place; exceptions = exceptions; statements = q }) statements_exact (λ q. ((tt, refl), refl)) (λ q. refl)
      (λ q h p e. rw (p.0.1, p.1, e) refl)))))

  begins_handler : (h : Handler Sequence) (ls r : List Lexeme) → Leads (handler_written sequence_written h) ls r → sees_word (codes "when") ls ≡ true
  begins_handler h ls r l =
      sees_word_at_first (codes "when") h.place
      (exceptions_written h.exceptions ++ delimiter (codes "=>") ∷ statements_written sequence_written h.statements) ls r l

  when_apart : (r : List Lexeme) → sees_word (codes "when") r ≡ true → ends_statements r ≡ true
  unfolding starts begins_statement is_reserved
  when_apart r e = seen_word ends_statements true (codes "when") (λ p ls. refl) r e

  handled_ends : (r : List Lexeme) → ends_sequence role.Handled r ≡ true → ends_statements r ≡ true
  handled_ends r end = first_true (ends_statements r) (not_word (codes "exception") r && not_word (codes "when") r) end

  no_exception : (r : List Lexeme) → ends_sequence role.Handled r ≡ true → sees_word (codes "exception") r ≡ false
  no_exception r end =
      not-true (sees_word (codes "exception") r)
      (first_true (not_word (codes "exception") r) (not_word (codes "when") r)
      (second_true (ends_statements r) (not_word (codes "exception") r && not_word (codes "when") r) end))

  no_when : (r : List Lexeme) → ends_sequence role.Handled r ≡ true → sees_word (codes "when") r ≡ false
  no_when r end =
      not-true (sees_word (codes "when") r)
      (second_true (not_word (codes "exception") r) (not_word (codes "when") r)
      (second_true (ends_statements r) (not_word (codes "exception") r && not_word (codes "when") r) end))

  abbrev Handlers : Type 0
  Handlers = OneOrMore (Handler Sequence)

  abbrev wh : Handler Sequence → List Written
  wh h = handler_written sequence_written h

  abbrev fh : Handler Sequence → Bool
  fh h = handler_fits sequence_fits left h

  behind_handler : (others : List (Handler Sequence)) (ls r : List Lexeme) → Leads (flat_map wh others) ls r → ends_sequence role.Handled r ≡ true
      → ends_statements ls ≡ true
  behind_handler [] ls r l end = subst (λ (z : List Lexeme). ends_statements z ≡ true) (sym l) (handled_ends r end)
  behind_handler (h ∷ others) ls r l end = let t = leads_through (wh h) (flat_map wh others) ls r l in when_apart ls (begins_handler h ls t.middle t.first)

  given_handlers : Rest (λ (xs : Handlers). xs.first ∷ xs.others) Any (λ xs. word (codes "exception") ∷ (wh xs.first ++ flat_map wh xs.others))
      (λ xs. fh xs.first && list_all fh xs.others) (ends_sequence role.Handled) (given_handlers_of left inner deeper)
  unfolding given_handlers_of starts
  given_handlers =
      let make : Handlers → List (Handler Sequence) = λ xs. xs.first ∷ xs.others in
      word_then make Any (λ xs. wh xs.first ++ flat_map wh xs.others) (λ xs. fh xs.first && list_all fh xs.others) (ends_sequence role.Handled)
      (codes "exception") _
      (field make Any (λ xs. flat_map wh xs.others) (λ xs. list_all fh xs.others) (ends_sequence role.Handled) (λ xs. xs.first) wh fh ends_statements
      (handler_of left inner deeper) _ one_handler
      (λ xs ls r p l end. behind_handler xs.others ls r l end)
      (λ first. closing make (λ xs. Any xs × (first ≡ xs.first)) (ends_sequence role.Handled) (λ xs. xs.others) (flat_map wh) (list_all fh)
      (items_of (sees_word (codes "when")) (handler_of left inner deeper))
      (λ others. record { first = first; others = others })
      (listed (sees_word (codes "when")) wh fh ends_statements (ends_sequence role.Handled)
      (handler_of left inner deeper) one_handler begins_handler refl when_apart handled_ends no_when)
      (λ others. (tt, refl)) (λ others. refl) (λ others xs p e. rw (p.1, e) refl)))

  abbrev no_handlers : Unit {0} → List (Handler Sequence)
  no_handlers u = []

  handlers_exact : Exact (handlers_written sequence_written) (list_all fh) (ends_sequence role.Handled) (handlers_of left inner deeper)
  unfolding handlers_of
  handlers_exact = record {
    sound = λ ls x r e.
        (either {make = itself} {w = handlers_written sequence_written} {ok = list_all fh} (sees_word (codes "exception"))
        (one_form (λ (xs : Handlers). xs.first ∷ xs.others) given_handlers (λ xs. refl) (λ xs. refl))
        (one_form no_handlers (ready no_handlers Any (ends_sequence role.Handled) tt tt (λ u p. refl)) (λ u. refl) (λ u. refl))).by ls x r e;
    complete = λ xs ls r q o l end. to xs ls r o l end;
  }
    where
      to : (xs : List (Handler Sequence)) (ls r : List Lexeme) → list_all fh xs ≡ true → Leads (handlers_written sequence_written xs) ls r
          → ends_sequence role.Handled r ≡ true
          → choose (sees_word (codes "exception")) (given_handlers_of left inner deeper) (pure []) ls ≡ done xs r
      to [] ls r o l end = rw (l, no_exception r end) refl
      to (x ∷ xs) ls r o l end =
          rw (sees_word_first (codes "exception") (wh x ++ flat_map wh xs) ls r l) (given_handlers.complete (record { first = x; others = xs }) ls r tt o l end)

  -- ---- statements and handlers, and a body

  exception_apart : (xs : List (Handler Sequence)) (ls r : List Lexeme) → Leads (handlers_written sequence_written xs) ls r
      → ends_sequence role.Handled r ≡ true → ends_statements ls ≡ true
  unfolding starts begins_statement is_reserved
  exception_apart [] ls r l end = subst (λ (z : List Lexeme). ends_statements z ≡ true) (sym l) (handled_ends r end)
  exception_apart (x ∷ xs) ls r l end = first_is ends_statements true (word (codes "exception")) (λ k ks. refl) (wh x ++ flat_map wh xs) ls r l

  abbrev Handled : Type 0
  Handled = Statements × List (Handler Sequence)

  handled_parts : (before : List (Declaration Sequence))
      → Rest (λ (x : Handled). made before x.0 x.1) Any (λ x. all_written w x.0 ++ handlers_written sequence_written x.1)
      (λ x. all_fit fits x.0 && list_all fh x.1) (ends_sequence role.Handled) (handled_behind_of left inner deeper before)
  unfolding handled_behind_of
  handled_parts before =
      let make : Handled → Sequence = λ x. made before x.0 x.1 in
      field make Any (λ x. handlers_written sequence_written x.1) (λ x. list_all fh x.1) (ends_sequence role.Handled) (λ x. x.0) (all_written w)
      (all_fit fits) ends_statements (statements_of left inner deeper) _ all_statements
      (λ x ls r p l end. exception_apart x.1 ls r l end)
      (λ inside. closing make (λ x. Any x × (inside ≡ x.0)) (ends_sequence role.Handled) (λ x. x.1) (handlers_written sequence_written) (list_all fh)
      (handlers_of left inner deeper) (λ behind. (inside, behind))
      handlers_exact (λ a. (tt, refl)) (λ a. refl) (λ a x p e. rw (p.1, e) refl))

  handled_complete : (x : SequenceParts Sequence) (ls r : List Lexeme) → sequence_fits_by sequence_fits x role.Handled left ≡ true
      → Leads (parts_written sequence_written x role.Handled) ls r → ends_sequence role.Handled r ≡ true
      → handled_behind_of left inner deeper [] ls ≡ done (rolled x) r
  handled_complete x ls r o l end = from x.declarations x.statements x.handlers o l
    where
      from : (d : List (Declaration Sequence)) (s : Statements) (h : List (Handler Sequence))
          → sequence_fits_by sequence_fits (record { declarations = d; statements = s; handlers = h }) role.Handled left ≡ true
          → Leads (all_written w s ++ handlers_written sequence_written h) ls r → handled_behind_of left inner deeper [] ls ≡ done (made d s h) r
      from [] s h o l = (handled_parts []).complete (s, h) ls r tt o l end
      from (x ∷ d) s h o l = absurd (false≢true o)

  handled_exact : Exact (λ q. sequence_written q role.Handled) (λ q. sequence_fits q role.Handled left) (ends_sequence role.Handled)
      (handled_behind_of left inner deeper [])
  handled_exact =
      by_parts role.Handled left (handled_behind_of left inner deeper [])
      (record {
        sound = one_form (λ (x : Handled). record { declarations = []; statements = x.0; handlers = x.1 }) (handled_parts []) (λ x. refl) (λ x. refl);
        complete = handled_complete;
      })

  abbrev wd : Declaration Sequence → List Written
  wd d = declaration_written sequence_written d

  abbrev fd : Declaration Sequence → Bool
  fd d = declaration_fits sequence_fits left d

  no_declaration : (r : List Lexeme) → ends_declarations r ≡ true → begins_declaration r ≡ false
  no_declaration r end = not-true (begins_declaration r) end

  pub declarations_exact : Exact (flat_map wd) (list_all fd) ends_declarations (declarations_of left inner deeper)
  unfolding declarations_of starts begins_declaration
  declarations_exact =
      listed begins_declaration wd fd always ends_declarations (declaration_of left inner deeper)
      (declaration_exact left inner deeper known further) declaration_begins refl (λ r e. refl) (λ r e. refl) no_declaration

  abbrev Whole : Type 0
  Whole = List (Declaration Sequence) × Handled

  body_parts : Rest (λ (x : Whole). made x.0 x.1.0 x.1.1) Any
      (λ x. flat_map wd x.0 ++ word (codes "begin") ∷ (all_written w x.1.0 ++ handlers_written sequence_written x.1.1))
      (λ x. list_all fd x.0 && (all_fit fits x.1.0 && list_all fh x.1.1))
      (ends_sequence role.Body) (whole_body_of left inner deeper)
  unfolding whole_body_of starts begins_declaration is_reserved
  body_parts =
      let make : Whole → Sequence = λ x. made x.0 x.1.0 x.1.1 in
      let behind : Whole → List Written = λ x. all_written w x.1.0 ++ handlers_written sequence_written x.1.1 in
      let okay : Whole → Bool = λ x. all_fit fits x.1.0 && list_all fh x.1.1 in
      field make Any (λ x. word (codes "begin") ∷ behind x) okay (ends_sequence role.Body) (λ x. x.0) (flat_map wd) (list_all fd) ends_declarations
      (declarations_of left inner deeper) _ declarations_exact
      (λ x ls r p l end. first_is ends_declarations true (word (codes "begin")) (λ k ks. refl) (behind x) ls r l)
      (λ before. word_then make (λ x. Any x × (before ≡ x.0)) behind okay (ends_sequence role.Body) (codes "begin") _ (handled before))
    where
      handled : (before : List (Declaration Sequence))
          → Rest (λ (x : Whole). made x.0 x.1.0 x.1.1) (λ x. Any x × (before ≡ x.0)) (λ x. all_written w x.1.0 ++ handlers_written sequence_written x.1.1)
          (λ x. all_fit fits x.1.0 && list_all fh x.1.1)
          (ends_sequence role.Body) (handled_behind_of left inner deeper before)
      handled before = record {
        sound =
            λ ls x r e. let f = (handled_parts before).sound ls x r e in
            record { item = (before, f.item); is = f.is; fits = (tt, refl); leads = f.leads; shaped = f.shaped };
        complete = λ x ls r p o l end. (handled_parts before).complete x.1 ls r tt o l end ∙ ap (λ z. done (made z x.1.0 x.1.1) r) p.1;
      }

  body_exact : Exact (λ q. sequence_written q role.Body) (λ q. sequence_fits q role.Body left) (ends_sequence role.Body) (whole_body_of left inner deeper)
  body_exact =
      by_parts role.Body left (whole_body_of left inner deeper)
      (record {
        sound = one_form (λ (x : Whole). record { declarations = x.0; statements = x.1.0; handlers = x.1.1 }) body_parts (λ x. refl) (λ x. refl);
        complete = λ x ls r o l end. body_parts.complete (x.declarations, (x.statements, x.handlers)) ls r tt o l end;
      })

  pub parts_exact : (at : SequenceRole) → Exact (λ q. sequence_written q at) (λ q. sequence_fits q at left) (ends_sequence at) (parts_of left inner deeper at)
  parts_exact role.Statements = statements_exact
  parts_exact role.Handled = handled_exact
  parts_exact role.Body = body_exact

-- ---- sequences at every level

pub sequence_exact : (left : ℕ) (at : SequenceRole) → Exact (λ q. sequence_written q at) (λ q. sequence_fits q at left) (ends_sequence at) (sequence_of left at)
unfolding sequence_of
sequence_exact zero at = parts_exact zero no_sequence no_sequence tt tt at
sequence_exact (suc zero) at = parts_exact (suc zero) (sequence_of zero) no_sequence (sequence_exact zero) tt at
sequence_exact (suc (suc left)) at =
    parts_exact (suc (suc left)) (sequence_of (suc left)) (sequence_of left) (sequence_exact (suc left)) (sequence_exact left) at

pub inside_exact : (left : ℕ) → ReadsDeeper left (inside_of left)
unfolding further_in
inside_exact zero = tt
inside_exact (suc left) = sequence_exact left
