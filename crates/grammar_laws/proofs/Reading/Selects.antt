-- Select statements (9.7), given that the sequences in them are read as they are written.
use Rattle.std.proofs.Common.{◌≡◌, ℕ, zero, suc, Bool, true, false, cond, ◌&&◌, List, [], ◌∷◌, ◌++◌, refl, sym, subst, ◌∙◌, codes, append_assoc}
use Rattle.std.specs.Prelude.{Option, Some, None, flat_map}
use Rattle.std.specs.List.{list_all}
use Rattle.std.proofs.lemmas.Bool.{not-true}
use Rattle.ann_base.specs.declared.places.Place.{Place}
use Rattle.ada_lex.specs.Reserved.{is_reserved}
use Rattle.ada_tree.specs.declared.statements.Call.{Call}
use Rattle.ada_tree.specs.declared.statements.Delay.{Delay}
use Rattle.ada_tree.specs.declared.statements.Accept.{Accept}
use Rattle.ada_tree.specs.declared.statements.Statement.TheVariants as statements
use Rattle.ada_tree.specs.declared.statements.SequenceRole.{SequenceRole}
use Rattle.ada_tree.specs.declared.statements.SequenceRole.TheVariants as role
use Rattle.ada_tree.specs.declared.statements.Sequence.{Sequence}
use Rattle.ada_tree.specs.declared.selects.SelectStatement.{SelectStatement}
use Rattle.ada_tree.specs.declared.selects.SelectForm.{SelectForm}
use Rattle.ada_tree.specs.declared.selects.SelectiveAccept.{SelectiveAccept}
use Rattle.ada_tree.specs.declared.selects.SelectAlternative.{SelectAlternative}
use Rattle.ada_tree.specs.declared.selects.Guard.{Guard}
use Rattle.ada_tree.specs.declared.selects.Alternative.{Alternative}
use Rattle.ada_tree.specs.declared.selects.TimedEntryCall.{TimedEntryCall}
use Rattle.ada_tree.specs.declared.selects.ConditionalEntryCall.{ConditionalEntryCall}
use Rattle.ada_tree.specs.declared.selects.AsynchronousSelect.{AsynchronousSelect}
use Rattle.ada_tree.specs.declared.selects.Trigger.{Trigger}
use Rattle.ada_tree.specs.declared.selects.SelectForm.TheVariants as select
use Rattle.ada_tree.specs.declared.selects.Alternative.TheVariants as alternative
use Rattle.ada_tree.specs.declared.selects.Trigger.TheVariants as trigger
use Rattle.ada_tree.specs.Written.{Written, Lexeme, word, word_at, delimiter, identifier_written, behind, separated, optional}
use Rattle.ada_tree.specs.Spelling.{sequence_written}
use Rattle.ada_tree.specs.SpellingExpressions.{expression_written, arguments_written}
use Rattle.ada_tree.specs.SpellingStatements.{semicolon, parameters_written, accept_body_written, statements_written, else_written}
use Rattle.ada_tree.specs.SpellingStatements.{call_written, delay_written, accept_written, guard_written, trigger_written}
use Rattle.ada_tree.specs.SpellingStatements.{alternative_written, select_alternative_written, select_form_written, select_written}
use Rattle.ada_tree.specs.Shape.{sequence_fits}
use Rattle.ada_tree.specs.ShapeExpressions.{within, optional_fits}
use Rattle.ada_tree.specs.ShapeStatements.{statements_fit, call_opens, delay_opens, accept_opens, guard_fits}
use Rattle.ada_tree.specs.ShapeStatements.{alternative_fits, select_alternative_fits, select_form_fits}
use Rattle.ada_grammar.specs.Reading.{Read, Parser, ◌>>=◌, choose, nothing, too_deep, starts, sees_word, sees_identifier, items_of}
use Rattle.ada_grammar.specs.ReadingStatements.{begins_statement, call_opened_of, delay_opened_of, accept_opened_of, optional_statements_of}
use Rattle.ada_grammar.specs.ReadingStatements.{else_of, accept_alternative_of, delay_alternative_of, terminate_of, alternative_of, guard_of}
use Rattle.ada_grammar.specs.ReadingStatements.{select_alternative_of, next_alternative_of, selective_of, asynchronous_of, timed_of}
use Rattle.ada_grammar.specs.ReadingStatements.{conditional_of, behind_call_of, call_select_of, delay_select_of, select_form_of, select_of}
use Rattle.grammar_laws.specs.Leads.{Leads}
use Rattle.grammar_laws.proofs.Reading.Leading.{leads_through}
use Rattle.grammar_laws.proofs.Reading.Exact.{done, Rest, Any, itself, Exact, closing, ready, narrower, first_is, first_true, second_true, optionally, listed}
use Rattle.grammar_laws.proofs.Reading.Tokens.{always, shapeless, not_word, seen_word, sees_word_first, sees_word_at_first}
use Rattle.grammar_laws.proofs.Reading.Ends.{ends_expression, ends_statements, ends_sequence}
use Rattle.grammar_laws.proofs.Reading.Expressions.{expression_exact}
use Rattle.grammar_laws.proofs.Reading.StatementsSteps.{placed, worded, delimited, part, last_part, through, Came, decided, Side}
use Rattle.grammar_laws.proofs.Reading.ClausesCalls.{call_exact, delay_exact}
use Rattle.grammar_laws.proofs.Reading.StatementsBegin.{name_sees}
use Rattle.grammar_laws.proofs.Reading.Statements.{ends_else, else_exact, accept_exact, optional_statements_exact}

and_others : (a b c : Bool) → ((a && b) && c) ≡ (a && (b && c))
and_others true b c = refl
and_others false b c = refl

regrouped : (a b c d : Bool) → (a && (b && (c && d))) ≡ (((a && b) && c) && d)
regrouped true b c d = sym (and_others b c d)
regrouped false b c d = refl

rejoined : (a b c d : List Written) → (a ++ (b ++ (c ++ d))) ≡ (((a ++ b) ++ c) ++ d)
rejoined a b c d = sym (append_assoc (a ++ b) c d ∙ append_assoc a b (c ++ d))

call_sees : (c : Call) (ws : List Written) (ls r : List Lexeme) → Leads (call_written c ++ ws) ls r → sees_identifier ls ≡ true
call_sees c ws ls r l =
    let t = leads_through (call_written c) ws ls r l in
    name_sees c.name (arguments_written expression_written c.arguments ++ semicolon) ls t.middle t.first

-- ---- one level further in

never : {A : Type 0} (F : Type 0) (begins : List Lexeme → Bool) (ls : List Lexeme) (x : A) (r : List Lexeme) → choose begins too_deep nothing ls ≡ done x r → F
never {A} F begins ls x r e = by_test (begins ls) e
  where
    by_test : (v : Bool) → cond {A = Read A} v (too_deep ls) (nothing ls) ≡ done x r → F
    by_test true e = absurd (cc)
    by_test false e = absurd (cc)

pub no_level : {A : Type 0} (begins : List Lexeme → Bool) (w : A → List Written) (ends : List Lexeme → Bool)
    → Exact w (λ a. false) ends (choose begins too_deep nothing)
no_level begins w ends = record {
  sound = λ ls x r e. never _ begins ls x r e;
  complete = λ i ls r p o l end. absurd (cc);
}

pub call_opened_exact : (left : ℕ) → Exact call_written (λ c. within left (call_opens c)) always (call_opened_of left)
unfolding call_opened_of
call_opened_exact zero = no_level sees_identifier call_written always
call_opened_exact (suc m) = call_exact m

pub delay_opened_exact : (left : ℕ) → Exact delay_written (λ d. within left (delay_opens d)) always (delay_opened_of left)
unfolding delay_opened_of
delay_opened_exact zero = no_level (sees_word (codes "delay")) delay_written always
delay_opened_exact (suc m) = delay_exact m

-- What is known of the reader of the sequences one level further in.
abbrev pub ReadsDeeper : ℕ → (SequenceRole → Parser Sequence) → Type 0
ReadsDeeper zero deeper = Unit {0}
ReadsDeeper (suc m) deeper = (r : SequenceRole) → Exact (λ q. sequence_written q r) (λ q. sequence_fits q r m) (ends_sequence r) (deeper r)

pub accept_opened_exact : (left : ℕ) (deeper : SequenceRole → Parser Sequence) → ReadsDeeper left deeper
    → Exact (accept_written sequence_written) (λ a. within left (accept_opens sequence_fits a)) always (accept_opened_of left deeper)
accept_opened_exact zero deeper known = no_level (sees_word (codes "accept")) (accept_written sequence_written) always
accept_opened_exact (suc m) deeper known = accept_exact m deeper known

-- an accept alternative behind its word
abbrev behind_accept : Accept Sequence → Option Sequence → List Written
behind_accept accept inside =
    identifier_written accept.entry
    ∷ (parameters_written accept.parameters ++ (optional (accept_body_written sequence_written accept.entry) accept.body ++ semicolon)
    ++ optional (statements_written sequence_written) inside)

-- what stands behind a form: "end"
abbrev pub before_end : List Lexeme → Bool
before_end r = sees_word (codes "end") r

abbrev pub ends_others : List Lexeme → Bool
ends_others r = ends_statements r && not_word (codes "or") r

module _ (left : ℕ) (sequence : SequenceRole → Parser Sequence) (deeper : SequenceRole → Parser Sequence)
    (exact : (r : SequenceRole) → Exact (λ q. sequence_written q r) (λ q. sequence_fits q r left) (ends_sequence r) (sequence r))
    (known : ReadsDeeper left deeper) where
  some_statements : Exact (optional (statements_written sequence_written)) (optional_fits (statements_fit sequence_fits left)) ends_statements
      (optional_statements_of left sequence)
  some_statements = optional_statements_exact left sequence exact

  -- ---- alternatives (9.7.1)

  abbrev Accepting : Type 0
  Accepting = Accept Sequence × Option Sequence

  abbrev Delaying : Type 0
  Delaying = Delay × Option Sequence

  abbrev accepting : Accepting → Alternative Sequence
  accepting x = alternative.Accept x.0 x.1

  abbrev delaying : Delaying → Alternative Sequence
  delaying x = alternative.Delay x.0 x.1

  accept_alternative_exact : Rest accepting Any (λ x. accept_written sequence_written x.0 ++ optional (statements_written sequence_written) x.1)
      (λ x. within left (accept_opens sequence_fits x.0) && optional_fits (statements_fit sequence_fits left) x.1) ends_statements
      (accept_alternative_of left sequence deeper)
  unfolding accept_alternative_of
  accept_alternative_exact =
      part (λ x. x.0) (accept_opened_exact left deeper known) (λ x ls r p l end. refl) (λ accept.
      closing accepting _ ends_statements (λ x. x.1) _ _ _ (λ inside. (accept, inside)) some_statements (λ inside. (tt, refl)) (λ inside. refl)
      (λ inside x p e. rw (p.1, e) refl))

  delay_alternative_exact : Rest delaying Any (λ x. delay_written x.0 ++ optional (statements_written sequence_written) x.1)
      (λ x. within left (delay_opens x.0) && optional_fits (statements_fit sequence_fits left) x.1) ends_statements (delay_alternative_of left sequence deeper)
  unfolding delay_alternative_of
  delay_alternative_exact =
      part (λ x. x.0) (delay_opened_exact left) (λ x ls r p l end. refl) (λ delay.
      closing delaying _ ends_statements (λ x. x.1) _ _ _ (λ inside. (delay, inside)) some_statements (λ inside. (tt, refl)) (λ inside. refl)
      (λ inside x p e. rw (p.1, e) refl))

  terminate_exact : Rest (λ (p : Place). alternative.Terminate p) Any (λ p. word_at p (codes "terminate") ∷ semicolon) shapeless ends_statements
      (terminate_of left sequence deeper)
  unfolding terminate_of
  terminate_exact =
      placed itself (codes "terminate") (λ place.
      delimited (codes ";") (
      ready _ _ ends_statements place (tt, refl) (λ j p. p.1)))

  abbrev OfAccepting : Alternative Sequence → Type 0
  OfAccepting = Came accepting Any

  abbrev OfDelaying : Alternative Sequence → Type 0
  OfDelaying = Came delaying Any

  abbrev OfTerminate : Alternative Sequence → Type 0
  OfTerminate = Came (λ (p : Place). alternative.Terminate p) Any

  abbrev NotAccepting : Alternative Sequence → Type 0
  NotAccepting (alternative.Accept accept inside) = ⊥
  NotAccepting (alternative.Delay delay inside) = Unit {0}
  NotAccepting (alternative.Terminate place) = Unit {0}

  accepts_there : (a : Alternative Sequence) (ls r : List Lexeme) → Leads (alternative_written sequence_written a) ls r
      → Side (sees_word (codes "accept")) (OfAccepting a) (NotAccepting a) ls
  unfolding starts
  accepts_there (alternative.Accept accept inside) ls r l = record {
    value = true;
    is = sees_word_at_first (codes "accept") accept.place (behind_accept accept inside) ls r l;
    known = record { from = (accept, inside); known = tt; is = refl };
  }
  accepts_there (alternative.Delay delay inside) ls r l = record {
    value = false;
    is = first_is (sees_word (codes "accept")) false (word_at delay.place (codes "delay")) (λ l ls. refl) _ ls r l;
    known = tt;
  }
  accepts_there (alternative.Terminate place) ls r l = record {
    value = false;
    is = first_is (sees_word (codes "accept")) false (word_at place (codes "terminate")) (λ l ls. refl) semicolon ls r l;
    known = tt;
  }

  delays_there : (a : Alternative Sequence) (ls r : List Lexeme) → NotAccepting a → Leads (alternative_written sequence_written a) ls r
      → Side (sees_word (codes "delay")) (OfDelaying a) (OfTerminate a) ls
  unfolding starts
  delays_there (alternative.Accept accept inside) ls r p l = absurd p
  delays_there (alternative.Delay delay inside) ls r p l = record {
    value = true;
    is = sees_word_at_first (codes "delay") delay.place _ ls r l;
    known = record { from = (delay, inside); known = tt; is = refl };
  }
  delays_there (alternative.Terminate place) ls r p l = record {
    value = false;
    is = first_is (sees_word (codes "delay")) false (word_at place (codes "terminate")) (λ l ls. refl) semicolon ls r l;
    known = record { from = place; known = tt; is = refl };
  }

  pub alternative_exact : Exact (alternative_written sequence_written) (alternative_fits sequence_fits left) ends_statements
      (alternative_of left sequence deeper)
  unfolding alternative_of
  alternative_exact =
      decided (sees_word (codes "accept"))
      (through {P = OfAccepting} accepting accept_alternative_exact (λ x p. record { from = x; known = p; is = refl }) (λ x p. refl) (λ x p. refl) (λ a p. p))
      (decided {P = NotAccepting} (sees_word (codes "delay"))
      (through {P = OfDelaying} delaying delay_alternative_exact (λ x p. record { from = x; known = p; is = refl }) (λ x p. refl) (λ x p. refl) (λ a p. p))
      (through {P = OfTerminate} (λ p. alternative.Terminate p) terminate_exact (λ x p. record { from = x; known = p; is = refl }) (λ x p. refl) (λ x p. refl)
      (λ a p. p))
      (λ a p. subst NotAccepting p.is tt) (λ a p. subst NotAccepting p.is tt)
      (λ a ls r p l end. delays_there a ls r p l))
      (λ a p. tt) (λ a p. tt)
      (λ a ls r p l end. accepts_there a ls r l)

  -- ["when" expression "=>"]
  pub guard_exact : Exact (optional guard_written) (optional_fits (guard_fits left)) (not_word (codes "when")) (guard_of left sequence deeper)
  unfolding guard_of starts
  guard_exact =
      optionally (sees_word (codes "when")) guard_written (guard_fits left) (not_word (codes "when")) _
      (placed (λ g. g.place) (codes "when") (λ place.
      last_part (λ g. g.condition) (expression_exact left) (λ g ls r p l end. first_is ends_expression true (delimiter (codes "=>")) (λ l ls. refl) [] ls r l)
      (λ condition.
      delimited (codes "=>") (
      ready _ _ (not_word (codes "when")) (record { place = place; condition = condition }) ((tt, refl), refl) (λ j p. rw (p.0.1, p.1) refl)))))
      (λ g ls r l. sees_word_at_first (codes "when") g.place _ ls r l)
      (λ r e. not-true (sees_word (codes "when") r) e)

  no_guard : (a : Alternative Sequence) (ls r : List Lexeme) → Leads (alternative_written sequence_written a) ls r → not_word (codes "when") ls ≡ true
  unfolding starts
  no_guard (alternative.Accept accept inside) ls r l =
      first_is (not_word (codes "when")) true (word_at accept.place (codes "accept")) (λ l ls. refl) (behind_accept accept inside) ls r l
  no_guard (alternative.Delay delay inside) ls r l = first_is (not_word (codes "when")) true (word_at delay.place (codes "delay")) (λ l ls. refl) _ ls r l
  no_guard (alternative.Terminate place) ls r l = first_is (not_word (codes "when")) true (word_at place (codes "terminate")) (λ l ls. refl) semicolon ls r l

  pub select_alternative_exact : Exact (select_alternative_written sequence_written) (select_alternative_fits sequence_fits left) ends_statements
      (select_alternative_of left sequence deeper)
  unfolding select_alternative_of
  select_alternative_exact =
      part (λ a. a.guard) guard_exact (λ a ls r p l end. no_guard a.alternative ls r l) (λ guard.
      closing itself _ ends_statements (λ a. a.alternative) _ _ _ (λ alternative. record { guard = guard; alternative = alternative })
      alternative_exact (λ alternative. (tt, refl)) (λ alternative. refl) (λ alternative a p e. rw (p.1, e) refl))

  next_alternative_exact : Exact (behind (word (codes "or")) (select_alternative_written sequence_written))
      (select_alternative_fits sequence_fits left) ends_statements (next_alternative_of left sequence deeper)
  unfolding next_alternative_of
  next_alternative_exact = worded (codes "or") select_alternative_exact

  others_exact : Exact (flat_map (behind (word (codes "or")) (select_alternative_written sequence_written)))
      (list_all (select_alternative_fits sequence_fits left)) ends_others
      (items_of (sees_word (codes "or")) (next_alternative_of left sequence deeper))
  unfolding starts begins_statement is_reserved
  others_exact =
      listed (sees_word (codes "or")) (behind (word (codes "or")) (select_alternative_written sequence_written))
      (select_alternative_fits sequence_fits left) ends_statements ends_others (next_alternative_of left sequence deeper)
      next_alternative_exact (λ a ls r l. sees_word_first (codes "or") _ ls r l) refl
      (λ r e. seen_word ends_statements true (codes "or") (λ p ls. refl) r e)
      (λ r e. first_true (ends_statements r) (not_word (codes "or") r) e)
      (λ r e. not-true (sees_word (codes "or") r) (second_true (ends_statements r) (not_word (codes "or") r) e))

  -- {"or" alternative} ["else" statements], behind the first alternative
  abbrev behind_first : SelectiveAccept Sequence → List Written
  behind_first s =
      flat_map (behind (word (codes "or")) (select_alternative_written sequence_written)) s.alternatives.others
      ++ optional (else_written sequence_written) s.otherwise

  abbrev behind_first_fits : SelectiveAccept Sequence → Bool
  behind_first_fits s =
      list_all (select_alternative_fits sequence_fits left) s.alternatives.others && optional_fits (statements_fit sequence_fits left) s.otherwise

  -- what stands behind the alternatives
  else_or_over : (test : List Lexeme → Bool)
      → ((l : Lexeme) (ls : List Lexeme) → test (record { kind = (word (codes "else")).kind; text = codes "else"; place = l.place } ∷ ls) ≡ true)
      → ((r : List Lexeme) → before_end r ≡ true → test r ≡ true)
      → (o : Option Sequence) (ls r : List Lexeme) → Leads (optional (else_written sequence_written) o) ls r → before_end r ≡ true → test ls ≡ true
  else_or_over test on over None ls r l end = subst (λ (z : List Lexeme). test z ≡ true) (sym l) (over r end)
  else_or_over test on over (Some q) ls r l end = first_is test true (word (codes "else")) on (statements_written sequence_written q) ls r l

  or_or_else : (test : List Lexeme → Bool)
      → ((l : Lexeme) (ls : List Lexeme) → test (record { kind = (word (codes "or")).kind; text = codes "or"; place = l.place } ∷ ls) ≡ true)
      → ((l : Lexeme) (ls : List Lexeme) → test (record { kind = (word (codes "else")).kind; text = codes "else"; place = l.place } ∷ ls) ≡ true)
      → ((r : List Lexeme) → before_end r ≡ true → test r ≡ true)
      → (xs : List (SelectAlternative Sequence)) (o : Option Sequence) (ls r : List Lexeme)
      → Leads (flat_map (behind (word (codes "or")) (select_alternative_written sequence_written)) xs ++ optional (else_written sequence_written) o) ls r
      → before_end r ≡ true → test ls ≡ true
  or_or_else test on_or on_else over [] o ls r l end = else_or_over test on_else over o ls r l end
  or_or_else test on_or on_else over (x ∷ xs) o ls r l end = first_is test true (word (codes "or")) on_or _ ls r l

  over_first : (s : SelectiveAccept Sequence) (ls r : List Lexeme) → Leads (behind_first s) ls r → before_end r ≡ true → ends_statements ls ≡ true
  unfolding starts begins_statement is_reserved
  over_first s ls r l end =
      or_or_else ends_statements (λ l ls. refl) (λ l ls. refl)
      (λ r e. seen_word ends_statements true (codes "end") (λ p ls. refl) r e) s.alternatives.others s.otherwise ls r l end

  not_then : (s : SelectiveAccept Sequence) (ls r : List Lexeme) → Leads (behind_first s) ls r → before_end r ≡ true → sees_word (codes "then") ls ≡ false
  unfolding starts
  not_then s ls r l end =
      not-true (sees_word (codes "then") ls)
      (or_or_else (not_word (codes "then")) (λ l ls. refl) (λ l ls. refl)
      (λ r e. seen_word (not_word (codes "then")) true (codes "end") (λ p ls. refl) r e) s.alternatives.others s.otherwise ls r l end)

  selective_exact : (first : SelectAlternative Sequence)
      → Rest (λ (s : SelectiveAccept Sequence). select.SelectiveAccept s)
      (λ s. Any s × (first ≡ s.alternatives.first)) behind_first behind_first_fits before_end (selective_of left sequence deeper first)
  unfolding selective_of starts begins_statement is_reserved
  selective_exact first =
      part (λ s. s.alternatives.others) others_exact
      (λ s ls r p l end. else_or_over ends_others (λ l ls. refl) (λ r e. seen_word ends_others true (codes "end") (λ p ls. refl) r e) s.otherwise ls r l end)
      (λ others.
      closing (λ s. select.SelectiveAccept s) _ before_end (λ s. s.otherwise) _ _ _
      (λ otherwise. record { alternatives = record { first = first; others = others }; otherwise = otherwise })
      (narrower itself Any _ _ ends_else before_end (else_of left sequence) (else_exact left sequence exact)
      (λ r e. seen_word ends_else true (codes "end") (λ p ls. refl) r e))
      (λ otherwise. ((tt, refl), refl)) (λ otherwise. refl) (λ otherwise s p e. rw (p.0.1, p.1, e) refl))

  first_exact : Rest (λ (s : SelectiveAccept Sequence). select.SelectiveAccept s) Any
      (λ s. select_alternative_written sequence_written s.alternatives.first ++ behind_first s)
      (λ s. select_alternative_fits sequence_fits left s.alternatives.first && behind_first_fits s) before_end
      (select_alternative_of left sequence deeper >>= λ first. selective_of left sequence deeper first)
  first_exact = part (λ s. s.alternatives.first) select_alternative_exact (λ s ls r p l end. over_first s ls r l end) selective_exact

  -- ---- behind a triggering statement and those behind it

  asynchronous_exact : (triggering : Trigger) (inside : Option Sequence)
      → Rest (λ (s : AsynchronousSelect Sequence). select.AsynchronousSelect s) (λ s. (triggering ≡ s.trigger) × (inside ≡ s.statements))
      (λ s. word (codes "then") ∷ word (codes "abort") ∷ statements_written sequence_written s.abortable)
      (λ s. statements_fit sequence_fits left s.abortable) before_end (asynchronous_of left sequence deeper triggering inside)
  unfolding asynchronous_of starts begins_statement is_reserved
  asynchronous_exact triggering inside =
      worded (codes "then") (worded (codes "abort") (
      closing (λ s. select.AsynchronousSelect s) _ before_end (λ s. s.abortable) _ _ (sequence role.Statements)
      (λ abortable. record { trigger = triggering; statements = inside; abortable = abortable })
      (narrower itself Any _ _ ends_statements before_end (sequence role.Statements) (exact role.Statements)
      (λ r e. seen_word ends_statements true (codes "end") (λ p ls. refl) r e))
      (λ abortable. (refl, refl)) (λ abortable. refl) (λ abortable s p e. rw (p.0, p.1, e) refl)))

  timed_exact : (call : Call) (inside : Option Sequence)
      → Rest (λ (t : TimedEntryCall Sequence). select.TimedEntryCall t) (λ t. (call ≡ t.call) × (inside ≡ t.statements))
      (λ t. word (codes "or") ∷ (delay_written t.delay ++ optional (statements_written sequence_written) t.delay_statements))
      (λ t. within left (delay_opens t.delay) && optional_fits (statements_fit sequence_fits left) t.delay_statements) before_end
      (timed_of left sequence deeper call inside)
  unfolding timed_of starts begins_statement is_reserved
  timed_exact call inside =
      worded (codes "or") (
      part (λ t. t.delay) (delay_opened_exact left) (λ t ls r p l end. refl) (λ delay.
      closing (λ t. select.TimedEntryCall t) _ before_end (λ t. t.delay_statements) _ _ _
      (λ after. record { call = call; statements = inside; delay = delay; delay_statements = after })
      (narrower itself Any _ _ ends_statements before_end _ some_statements (λ r e. seen_word ends_statements true (codes "end") (λ p ls. refl) r e))
      (λ after. ((refl, refl), refl)) (λ after. refl) (λ after t p e. rw (p.0.0, p.0.1, p.1, e) refl)))

  conditional_exact : (call : Call) (inside : Option Sequence)
      → Rest (λ (c : ConditionalEntryCall Sequence). select.ConditionalEntryCall c) (λ c. (call ≡ c.call) × (inside ≡ c.statements))
      (λ c. else_written sequence_written c.otherwise)
      (λ c. statements_fit sequence_fits left c.otherwise) before_end (conditional_of left sequence deeper call inside)
  unfolding conditional_of starts begins_statement is_reserved
  conditional_exact call inside =
      worded (codes "else") (
      closing (λ c. select.ConditionalEntryCall c) _ before_end (λ c. c.otherwise) _ _ (sequence role.Statements)
      (λ otherwise. record { call = call; statements = inside; otherwise = otherwise })
      (narrower itself Any _ _ ends_statements before_end (sequence role.Statements) (exact role.Statements)
      (λ r e. seen_word ends_statements true (codes "end") (λ p ls. refl) r e))
      (λ otherwise. (refl, refl)) (λ otherwise. refl) (λ otherwise c p e. rw (p.0, p.1, e) refl))

  abbrev OfTimed : Call → Option Sequence → SelectForm Sequence → Type 0
  OfTimed call inside = Came (λ (t : TimedEntryCall Sequence). select.TimedEntryCall t) (λ t. (call ≡ t.call) × (inside ≡ t.statements))

  abbrev OfConditional : Call → Option Sequence → SelectForm Sequence → Type 0
  OfConditional call inside = Came (λ (c : ConditionalEntryCall Sequence). select.ConditionalEntryCall c) (λ c. (call ≡ c.call) × (inside ≡ c.statements))

  abbrev OfAsynchronous : Trigger → Option Sequence → SelectForm Sequence → Type 0
  OfAsynchronous triggering inside =
      Came (λ (s : AsynchronousSelect Sequence). select.AsynchronousSelect s) (λ s. (triggering ≡ s.trigger) × (inside ≡ s.statements))

  abbrev OfSelective : SelectAlternative Sequence → SelectForm Sequence → Type 0
  OfSelective first = Came (λ (s : SelectiveAccept Sequence). select.SelectiveAccept s) (λ s. Any s × (first ≡ s.alternatives.first))

  abbrev OfAnySelective : SelectForm Sequence → Type 0
  OfAnySelective = Came (λ (s : SelectiveAccept Sequence). select.SelectiveAccept s) Any

  abbrev behind_then : AsynchronousSelect Sequence → List Written
  behind_then s = word (codes "then") ∷ word (codes "abort") ∷ statements_written sequence_written s.abortable

  abbrev behind_timed : TimedEntryCall Sequence → List Written
  behind_timed t = word (codes "or") ∷ (delay_written t.delay ++ optional (statements_written sequence_written) t.delay_statements)

  -- ---- forms with a call first

  abbrev CallForm : SelectForm Sequence → Call → Option Sequence → Type 0
  CallForm (select.SelectiveAccept s) call inside = ⊥
  CallForm (select.TimedEntryCall t) call inside = (call ≡ t.call) × (inside ≡ t.statements)
  CallForm (select.ConditionalEntryCall c) call inside = (call ≡ c.call) × (inside ≡ c.statements)
  CallForm (select.AsynchronousSelect s) call inside = (trigger.Call call ≡ s.trigger) × (inside ≡ s.statements)

  abbrev NotTimed : Call → Option Sequence → SelectForm Sequence → Type 0
  NotTimed call inside (select.SelectiveAccept s) = ⊥
  NotTimed call inside (select.TimedEntryCall t) = ⊥
  NotTimed call inside (select.ConditionalEntryCall c) = (call ≡ c.call) × (inside ≡ c.statements)
  NotTimed call inside (select.AsynchronousSelect s) = (trigger.Call call ≡ s.trigger) × (inside ≡ s.statements)

  not_timed : (call : Call) (inside : Option Sequence) (s : SelectForm Sequence) → NotTimed call inside s → CallForm s call inside
  not_timed call inside (select.SelectiveAccept s) p = absurd p
  not_timed call inside (select.TimedEntryCall t) p = absurd p
  not_timed call inside (select.ConditionalEntryCall c) p = p
  not_timed call inside (select.AsynchronousSelect s) p = p

  abbrev behind_call : SelectForm Sequence → List Written
  behind_call (select.SelectiveAccept s) = []
  behind_call (select.TimedEntryCall t) = behind_timed t
  behind_call (select.ConditionalEntryCall c) = else_written sequence_written c.otherwise
  behind_call (select.AsynchronousSelect s) = behind_then s

  abbrev behind_call_fits : SelectForm Sequence → Bool
  behind_call_fits (select.SelectiveAccept s) = true
  behind_call_fits (select.TimedEntryCall t) = within left (delay_opens t.delay) && optional_fits (statements_fit sequence_fits left) t.delay_statements
  behind_call_fits (select.ConditionalEntryCall c) = statements_fit sequence_fits left c.otherwise
  behind_call_fits (select.AsynchronousSelect s) = statements_fit sequence_fits left s.abortable

  or_there : (call : Call) (inside : Option Sequence) (s : SelectForm Sequence) (ls r : List Lexeme) → CallForm s call inside → Leads (behind_call s) ls r
      → Side (sees_word (codes "or")) (OfTimed call inside s) (NotTimed call inside s) ls
  unfolding starts
  or_there call inside (select.SelectiveAccept s) ls r p l = absurd p
  or_there call inside (select.TimedEntryCall t) ls r p l = record {
    value = true;
    is = sees_word_first (codes "or") (delay_written t.delay ++ optional (statements_written sequence_written) t.delay_statements) ls r l;
    known = record { from = t; known = p; is = refl };
  }
  or_there call inside (select.ConditionalEntryCall c) ls r p l = record {
    value = false;
    is = first_is (sees_word (codes "or")) false (word (codes "else")) (λ l ls. refl) (statements_written sequence_written c.otherwise) ls r l;
    known = p;
  }
  or_there call inside (select.AsynchronousSelect s) ls r p l =
      record {
        value = false;
        is =
            first_is (sees_word (codes "or")) false (word (codes "then")) (λ l ls. refl)
            (word (codes "abort") ∷ statements_written sequence_written s.abortable) ls r l;
        known = p;
      }

  else_there : (call : Call) (inside : Option Sequence) (s : SelectForm Sequence) (ls r : List Lexeme) → NotTimed call inside s → Leads (behind_call s) ls r
      → Side (sees_word (codes "else")) (OfConditional call inside s) (OfAsynchronous (trigger.Call call) inside s) ls
  unfolding starts
  else_there call inside (select.SelectiveAccept s) ls r p l = absurd p
  else_there call inside (select.TimedEntryCall t) ls r p l = absurd p
  else_there call inside (select.ConditionalEntryCall c) ls r p l = record {
    value = true;
    is = sees_word_first (codes "else") (statements_written sequence_written c.otherwise) ls r l;
    known = record { from = c; known = p; is = refl };
  }
  else_there call inside (select.AsynchronousSelect s) ls r p l =
      record {
        value = false;
        is =
            first_is (sees_word (codes "else")) false (word (codes "then")) (λ l ls. refl)
            (word (codes "abort") ∷ statements_written sequence_written s.abortable) ls r l;
        known = record { from = s; known = p; is = refl };
      }

  behind_call_exact : (call : Call) (inside : Option Sequence)
      → Rest itself (λ s. CallForm s call inside) behind_call behind_call_fits before_end (behind_call_of left sequence deeper call inside)
  unfolding behind_call_of
  behind_call_exact call inside =
      decided (sees_word (codes "or"))
      (through {P = OfTimed call inside} (λ t. select.TimedEntryCall t) (timed_exact call inside) (λ t p. record { from = t; known = p; is = refl })
      (λ t p. refl) (λ t p. refl) (λ s p. p))
      (decided {P = NotTimed call inside} (sees_word (codes "else"))
      (through {P = OfConditional call inside} (λ c. select.ConditionalEntryCall c) (conditional_exact call inside)
      (λ c p. record { from = c; known = p; is = refl }) (λ c p. refl) (λ c p. refl) (λ s p. p))
      (through {P = OfAsynchronous (trigger.Call call) inside} (λ s. select.AsynchronousSelect s) (asynchronous_exact (trigger.Call call) inside)
      (λ s p. record { from = s; known = p; is = refl }) (λ s p. refl) (λ s p. refl) (λ s p. p))
      (λ s p. subst (NotTimed call inside) p.is p.known) (λ s p. subst (NotTimed call inside) p.is p.known)
      (λ s ls r p l end. else_there call inside s ls r p l))
      (λ s p. subst (λ (z : SelectForm Sequence). CallForm z call inside) p.is p.known) (λ s p. not_timed call inside s p)
      (λ s ls r p l end. or_there call inside s ls r p l)

  over_call : (s : SelectForm Sequence) (call : Call) (inside : Option Sequence) → CallForm s call inside → (ls r : List Lexeme) → Leads (behind_call s) ls r
      → ends_statements ls ≡ true
  unfolding starts begins_statement is_reserved
  over_call (select.SelectiveAccept s) call inside p ls r l = absurd p
  over_call (select.TimedEntryCall t) call inside p ls r l =
      first_is ends_statements true (word (codes "or")) (λ l ls. refl)
      (delay_written t.delay ++ optional (statements_written sequence_written) t.delay_statements) ls r l
  over_call (select.ConditionalEntryCall c) call inside p ls r l =
      first_is ends_statements true (word (codes "else")) (λ l ls. refl) (statements_written sequence_written c.otherwise) ls r l
  over_call (select.AsynchronousSelect s) call inside p ls r l =
      first_is ends_statements true (word (codes "then")) (λ l ls. refl) (word (codes "abort") ∷ statements_written sequence_written s.abortable) ls r l

  abbrev Called : Type 0
  Called = (Call × Option Sequence) × SelectForm Sequence

  call_form_exact : Rest (λ (x : Called). x.1) (λ x. CallForm x.1 x.0.0 x.0.1)
      (λ x. call_written x.0.0 ++ (optional (statements_written sequence_written) x.0.1 ++ behind_call x.1))
      (λ x. within left (call_opens x.0.0) && (optional_fits (statements_fit sequence_fits left) x.0.1 && behind_call_fits x.1)) before_end
      (call_select_of left sequence deeper)
  unfolding call_select_of
  call_form_exact =
      part (λ x. x.0.0) (call_opened_exact left) (λ x ls r p l end. refl) (λ call.
      part (λ x. x.0.1) some_statements (λ x ls r p l end. over_call x.1 x.0.0 x.0.1 p.0 ls r l) (λ inside.
      through {J = SelectForm Sequence} {Q = λ s. CallForm s call inside} (λ s. ((call, inside), s)) (behind_call_exact call inside) (λ s p. ((p, refl), refl))
      (λ s p. refl) (λ s p. refl)
      (λ x p. record { from = x.1; known = rw (p.0.1, p.1) p.0.0; is = rw (p.0.1, p.1) refl })))

  call_form_written : (s : SelectForm Sequence) (call : Call) (inside : Option Sequence) → CallForm s call inside
      → call_written call ++ (optional (statements_written sequence_written) inside ++ behind_call s) ≡ select_form_written sequence_written s
  call_form_written (select.SelectiveAccept s) call inside e = absurd e
  call_form_written (select.TimedEntryCall t) call inside e = rw (e.0, e.1) refl
  call_form_written (select.ConditionalEntryCall c) call inside e = rw (e.0, e.1) refl
  call_form_written (select.AsynchronousSelect s) call inside e = rw (← e.0, e.1) refl

  call_form_fits : (s : SelectForm Sequence) (call : Call) (inside : Option Sequence) → CallForm s call inside
      → (within left (call_opens call) && (optional_fits (statements_fit sequence_fits left) inside && behind_call_fits s))
      ≡ select_form_fits sequence_fits left s
  call_form_fits (select.SelectiveAccept s) call inside e = absurd e
  call_form_fits (select.TimedEntryCall t) call inside e = rw (e.0, e.1) refl
  call_form_fits (select.ConditionalEntryCall c) call inside e = rw (e.0, e.1) refl
  call_form_fits (select.AsynchronousSelect s) call inside e = rw (← e.0, e.1) refl

  abbrev IsCallForm : SelectForm Sequence → Type 0
  IsCallForm s = (x : Call × Option Sequence) × CallForm s x.0 x.1

  call_select_exact : Rest itself IsCallForm (select_form_written sequence_written) (select_form_fits sequence_fits left) before_end
      (call_select_of left sequence deeper)
  call_select_exact =
      through {J = Called} {Q = λ x. CallForm x.1 x.0.0 x.0.1} (λ x. x.1) call_form_exact (λ x p. (x.0, p)) (λ x p. call_form_written x.1 x.0.0 x.0.1 p)
      (λ x p. call_form_fits x.1 x.0.0 x.0.1 p)
      (λ s p. record { from = (p.0, s); known = p.1; is = refl })

  -- ---- forms with a delay first

  abbrev unguarded : Delay → Option Sequence → SelectAlternative Sequence
  unguarded delay inside = record { guard = None; alternative = alternative.Delay delay inside }

  abbrev DelayForm : SelectForm Sequence → Delay → Option Sequence → Type 0
  DelayForm (select.SelectiveAccept s) delay inside = unguarded delay inside ≡ s.alternatives.first
  DelayForm (select.TimedEntryCall t) delay inside = ⊥
  DelayForm (select.ConditionalEntryCall c) delay inside = ⊥
  DelayForm (select.AsynchronousSelect s) delay inside = (trigger.Delay delay ≡ s.trigger) × (inside ≡ s.statements)

  abbrev behind_delay : SelectForm Sequence → List Written
  behind_delay (select.SelectiveAccept s) = behind_first s
  behind_delay (select.TimedEntryCall t) = []
  behind_delay (select.ConditionalEntryCall c) = []
  behind_delay (select.AsynchronousSelect s) = behind_then s

  abbrev behind_delay_fits : SelectForm Sequence → Bool
  behind_delay_fits (select.SelectiveAccept s) = behind_first_fits s
  behind_delay_fits (select.TimedEntryCall t) = true
  behind_delay_fits (select.ConditionalEntryCall c) = true
  behind_delay_fits (select.AsynchronousSelect s) = statements_fit sequence_fits left s.abortable

  then_there : (delay : Delay) (inside : Option Sequence) (s : SelectForm Sequence) (ls r : List Lexeme) → DelayForm s delay inside
      → Leads (behind_delay s) ls r → before_end r ≡ true
      → Side (sees_word (codes "then")) (OfAsynchronous (trigger.Delay delay) inside s) (OfSelective (unguarded delay inside) s) ls
  then_there delay inside (select.SelectiveAccept s) ls r p l end = record {
    value = false;
    is = not_then s ls r l end;
    known = record { from = s; known = (tt, p); is = refl };
  }
  then_there delay inside (select.TimedEntryCall t) ls r p l end = absurd p
  then_there delay inside (select.ConditionalEntryCall c) ls r p l end = absurd p
  then_there delay inside (select.AsynchronousSelect s) ls r p l end =
      record {
        value = true;
        is = sees_word_first (codes "then") (word (codes "abort") ∷ statements_written sequence_written s.abortable) ls r l;
        known = record { from = s; known = p; is = refl };
      }

  behind_delay_exact : (delay : Delay) (inside : Option Sequence) → Rest itself (λ s. DelayForm s delay inside) behind_delay behind_delay_fits before_end
      (choose (sees_word (codes "then")) (asynchronous_of left sequence deeper (trigger.Delay delay) inside)
      (selective_of left sequence deeper (unguarded delay inside)))
  behind_delay_exact delay inside =
      decided (sees_word (codes "then"))
      (through {P = OfAsynchronous (trigger.Delay delay) inside} (λ s. select.AsynchronousSelect s) (asynchronous_exact (trigger.Delay delay) inside)
      (λ s p. record { from = s; known = p; is = refl }) (λ s p. refl) (λ s p. refl) (λ s p. p))
      (through {P = OfSelective (unguarded delay inside)} (λ s. select.SelectiveAccept s) (selective_exact (unguarded delay inside))
      (λ s p. record { from = s; known = p; is = refl }) (λ s p. refl) (λ s p. refl) (λ s p. p))
      (λ s p. subst (λ (z : SelectForm Sequence). DelayForm z delay inside) p.is p.known)
      (λ s p. subst (λ (z : SelectForm Sequence). DelayForm z delay inside) p.is p.known.1)
      (λ s ls r p l end. then_there delay inside s ls r p l end)

  over_delay : (s : SelectForm Sequence) (delay : Delay) (inside : Option Sequence) → DelayForm s delay inside → (ls r : List Lexeme)
      → Leads (behind_delay s) ls r → before_end r ≡ true → ends_statements ls ≡ true
  unfolding starts begins_statement is_reserved
  over_delay (select.SelectiveAccept s) delay inside p ls r l end = over_first s ls r l end
  over_delay (select.TimedEntryCall t) delay inside p ls r l end = absurd p
  over_delay (select.ConditionalEntryCall c) delay inside p ls r l end = absurd p
  over_delay (select.AsynchronousSelect s) delay inside p ls r l end =
      first_is ends_statements true (word (codes "then")) (λ l ls. refl) (word (codes "abort") ∷ statements_written sequence_written s.abortable) ls r l

  abbrev Delayed : Type 0
  Delayed = (Delay × Option Sequence) × SelectForm Sequence

  delay_form_exact : Rest (λ (x : Delayed). x.1) (λ x. DelayForm x.1 x.0.0 x.0.1)
      (λ x. delay_written x.0.0 ++ (optional (statements_written sequence_written) x.0.1 ++ behind_delay x.1))
      (λ x. within left (delay_opens x.0.0) && (optional_fits (statements_fit sequence_fits left) x.0.1 && behind_delay_fits x.1)) before_end
      (delay_select_of left sequence deeper)
  unfolding delay_select_of
  delay_form_exact =
      part (λ x. x.0.0) (delay_opened_exact left) (λ x ls r p l end. refl) (λ delay.
      part (λ x. x.0.1) some_statements (λ x ls r p l end. over_delay x.1 x.0.0 x.0.1 p.0 ls r l end) (λ inside.
      through {J = SelectForm Sequence} {Q = λ s. DelayForm s delay inside} (λ s. ((delay, inside), s)) (behind_delay_exact delay inside)
      (λ s p. ((p, refl), refl)) (λ s p. refl) (λ s p. refl)
      (λ x p. record { from = x.1; known = rw (p.0.1, p.1) p.0.0; is = rw (p.0.1, p.1) refl })))

  delay_form_written : (s : SelectForm Sequence) (delay : Delay) (inside : Option Sequence) → DelayForm s delay inside
      → delay_written delay ++ (optional (statements_written sequence_written) inside ++ behind_delay s) ≡ select_form_written sequence_written s
  delay_form_written (select.SelectiveAccept s) delay inside e =
      rw (← e) (rejoined (delay_written delay) (optional (statements_written sequence_written) inside)
      (flat_map (behind (word (codes "or")) (select_alternative_written sequence_written)) s.alternatives.others)
      (optional (else_written sequence_written) s.otherwise))
  delay_form_written (select.TimedEntryCall t) delay inside e = absurd e
  delay_form_written (select.ConditionalEntryCall c) delay inside e = absurd e
  delay_form_written (select.AsynchronousSelect s) delay inside e = rw (← e.0, e.1) refl

  delay_form_fits : (s : SelectForm Sequence) (delay : Delay) (inside : Option Sequence) → DelayForm s delay inside
      → (within left (delay_opens delay) && (optional_fits (statements_fit sequence_fits left) inside && behind_delay_fits s))
      ≡ select_form_fits sequence_fits left s
  delay_form_fits (select.SelectiveAccept s) delay inside e =
      rw (← e) (regrouped (within left (delay_opens delay)) (optional_fits (statements_fit sequence_fits left) inside)
      (list_all (select_alternative_fits sequence_fits left) s.alternatives.others) (optional_fits (statements_fit sequence_fits left) s.otherwise))
  delay_form_fits (select.TimedEntryCall t) delay inside e = absurd e
  delay_form_fits (select.ConditionalEntryCall c) delay inside e = absurd e
  delay_form_fits (select.AsynchronousSelect s) delay inside e = rw (← e.0, e.1) refl

  abbrev IsDelayForm : SelectForm Sequence → Type 0
  IsDelayForm s = (x : Delay × Option Sequence) × DelayForm s x.0 x.1

  delay_select_exact : Rest itself IsDelayForm (select_form_written sequence_written) (select_form_fits sequence_fits left) before_end
      (delay_select_of left sequence deeper)
  delay_select_exact =
      through {J = Delayed} {Q = λ x. DelayForm x.1 x.0.0 x.0.1} (λ x. x.1) delay_form_exact (λ x p. (x.0, p)) (λ x p. delay_form_written x.1 x.0.0 x.0.1 p)
      (λ x p. delay_form_fits x.1 x.0.0 x.0.1 p)
      (λ s p. record { from = (p.0, s); known = p.1; is = refl })

  -- ---- which form stands there

  abbrev NotCallForm : SelectForm Sequence → Type 0
  NotCallForm (select.SelectiveAccept s) = Unit {0}
  NotCallForm (select.TimedEntryCall t) = ⊥
  NotCallForm (select.ConditionalEntryCall c) = ⊥
  NotCallForm (select.AsynchronousSelect s) = (x : Delay × Option Sequence) × ((trigger.Delay x.0 ≡ s.trigger) × (x.1 ≡ s.statements))

  no_call : (s : SelectForm Sequence) → IsDelayForm s → NotCallForm s
  no_call (select.SelectiveAccept s) p = tt
  no_call (select.TimedEntryCall t) p = absurd p.1
  no_call (select.ConditionalEntryCall c) p = absurd p.1
  no_call (select.AsynchronousSelect s) p = p

  -- a selective accept begins with no identifier
  no_identifier : (g : Option Guard) (a : Alternative Sequence) (ws : List Written) (ls r : List Lexeme)
      → Leads ((optional guard_written g ++ alternative_written sequence_written a) ++ ws) ls r → sees_identifier ls ≡ false
  unfolding starts is_reserved
  no_identifier (Some g) a ws ls r l =
      first_is sees_identifier false (word_at g.place (codes "when")) (λ l ls. refl)
      (((expression_written g.condition ++ delimiter (codes "=>") ∷ []) ++ alternative_written sequence_written a) ++ ws) ls r l
  no_identifier None (alternative.Accept accept inside) ws ls r l =
      first_is sees_identifier false (word_at accept.place (codes "accept")) (λ l ls. refl) (behind_accept accept inside ++ ws) ls r l
  no_identifier None (alternative.Delay delay inside) ws ls r l =
      let t = leads_through (alternative_written sequence_written (alternative.Delay delay inside)) ws ls r l in
      first_is sees_identifier false (word_at delay.place (codes "delay")) (λ l ls. refl) _ ls t.middle t.first
  no_identifier None (alternative.Terminate place) ws ls r l =
      first_is sees_identifier false (word_at place (codes "terminate")) (λ l ls. refl) (semicolon ++ ws) ls r l

  triggered : (s : AsynchronousSelect Sequence) (t : Trigger) → t ≡ s.trigger → (ls r : List Lexeme)
      → Leads (trigger_written t ++ (optional (statements_written sequence_written) s.statements ++ behind_then s)) ls r
      → Side sees_identifier (IsCallForm (select.AsynchronousSelect s)) (NotCallForm (select.AsynchronousSelect s)) ls
  unfolding starts is_reserved
  triggered s (trigger.Call call) e ls r l = record {
    value = true;
    is = call_sees call (optional (statements_written sequence_written) s.statements ++ behind_then s) ls r l;
    known = ((call, s.statements), (e, refl));
  }
  triggered s (trigger.Delay delay) e ls r l =
      let t = leads_through (delay_written delay) (optional (statements_written sequence_written) s.statements ++ behind_then s) ls r l in
      record {
        value = false;
        is = first_is sees_identifier false (word_at delay.place (codes "delay")) (λ l ls. refl) _ ls t.middle t.first;
        known = ((delay, s.statements), (e, refl));
      }

  call_there : (s : SelectForm Sequence) (ls r : List Lexeme) → Leads (select_form_written sequence_written s) ls r
      → Side sees_identifier (IsCallForm s) (NotCallForm s) ls
  call_there (select.SelectiveAccept s) ls r l =
      let t =
      leads_through (separated (word (codes "or")) (select_alternative_written sequence_written) s.alternatives)
      (optional (else_written sequence_written) s.otherwise) ls r l in
      record {
        value = false;
        is =
            no_identifier s.alternatives.first.guard s.alternatives.first.alternative
            (flat_map (behind (word (codes "or")) (select_alternative_written sequence_written)) s.alternatives.others) ls t.middle t.first;
        known = tt;
      }
  call_there (select.TimedEntryCall t) ls r l =
      record {
        value = true;
        is = call_sees t.call (optional (statements_written sequence_written) t.statements ++ behind_timed t) ls r l;
        known = ((t.call, t.statements), (refl, refl));
      }
  call_there (select.ConditionalEntryCall c) ls r l =
      record {
        value = true;
        is = call_sees c.call (optional (statements_written sequence_written) c.statements ++ else_written sequence_written c.otherwise) ls r l;
        known = ((c.call, c.statements), (refl, refl));
      }
  call_there (select.AsynchronousSelect s) ls r l = triggered s s.trigger refl ls r l

  first_there : (s : SelectiveAccept Sequence) (g : Option Guard) (a : Alternative Sequence) → record { guard = g; alternative = a } ≡ s.alternatives.first
      → (ls r : List Lexeme)
      → Leads (optional guard_written g ++ alternative_written sequence_written a) ls r
      → Side (sees_word (codes "delay")) (IsDelayForm (select.SelectiveAccept s)) (OfAnySelective (select.SelectiveAccept s)) ls
  unfolding starts
  first_there s (Some g) a e ls r l =
      record {
        value = false;
        is = first_is (sees_word (codes "delay")) false (word_at g.place (codes "when")) (λ l ls. refl) _ ls r l;
        known = record { from = s; known = tt; is = refl };
      }
  first_there s None (alternative.Accept accept inside) e ls r l =
      record {
        value = false;
        is = first_is (sees_word (codes "delay")) false (word_at accept.place (codes "accept")) (λ l ls. refl) (behind_accept accept inside) ls r l;
        known = record { from = s; known = tt; is = refl };
      }
  first_there s None (alternative.Delay delay inside) e ls r l = record {
    value = true;
    is = sees_word_at_first (codes "delay") delay.place _ ls r l;
    known = ((delay, inside), e);
  }
  first_there s None (alternative.Terminate place) e ls r l =
      record {
        value = false;
        is = first_is (sees_word (codes "delay")) false (word_at place (codes "terminate")) (λ l ls. refl) semicolon ls r l;
        known = record { from = s; known = tt; is = refl };
      }

  delay_there : (s : SelectForm Sequence) (ls r : List Lexeme) → NotCallForm s → Leads (select_form_written sequence_written s) ls r
      → Side (sees_word (codes "delay")) (IsDelayForm s) (OfAnySelective s) ls
  delay_there (select.SelectiveAccept s) ls r p l =
      let t =
      leads_through (separated (word (codes "or")) (select_alternative_written sequence_written) s.alternatives)
      (optional (else_written sequence_written) s.otherwise) ls r l in
      let u =
      leads_through (select_alternative_written sequence_written s.alternatives.first)
      (flat_map (behind (word (codes "or")) (select_alternative_written sequence_written)) s.alternatives.others) ls t.middle t.first in
      first_there s s.alternatives.first.guard s.alternatives.first.alternative refl ls u.middle u.first
  delay_there (select.TimedEntryCall t) ls r p l = absurd p
  delay_there (select.ConditionalEntryCall c) ls r p l = absurd p
  delay_there (select.AsynchronousSelect s) ls r p l =
      let l2 =
      subst (λ (z : Trigger). Leads (trigger_written z ++ (optional (statements_written sequence_written) s.statements ++ behind_then s)) ls r)
      (sym p.1.0) l in
      let t = leads_through (delay_written p.0.0) (optional (statements_written sequence_written) s.statements ++ behind_then s) ls r l2 in
      record { value = true; is = sees_word_at_first (codes "delay") p.0.0.place _ ls t.middle t.first; known = p }

  any_selective_exact : Rest itself OfAnySelective (select_form_written sequence_written) (select_form_fits sequence_fits left) before_end
      (select_alternative_of left sequence deeper >>= λ first. selective_of left sequence deeper first)
  any_selective_exact =
      through {Q = Any} (λ s. select.SelectiveAccept s) first_exact (λ s p. record { from = s; known = p; is = refl })
      (λ s p. sym (append_assoc (select_alternative_written sequence_written s.alternatives.first)
      (flat_map (behind (word (codes "or")) (select_alternative_written sequence_written)) s.alternatives.others)
      (optional (else_written sequence_written) s.otherwise)))
      (λ s p. sym (and_others (select_alternative_fits sequence_fits left s.alternatives.first)
      (list_all (select_alternative_fits sequence_fits left) s.alternatives.others) (optional_fits (statements_fit sequence_fits left) s.otherwise)))
      (λ s p. p)

  pub select_form_exact : Exact (select_form_written sequence_written) (select_form_fits sequence_fits left) before_end (select_form_of left sequence deeper)
  unfolding select_form_of
  select_form_exact =
      decided sees_identifier call_select_exact
      (decided {P = NotCallForm} (sees_word (codes "delay")) delay_select_exact any_selective_exact
      (λ s p. no_call s p) (λ s p. subst NotCallForm p.is tt)
      (λ s ls r p l end. delay_there s ls r p l))
      (λ s p. tt) (λ s p. tt)
      (λ s ls r p l end. call_there s ls r l)

  -- "select" form "end" "select" ";"
  pub select_exact : Rest (λ (s : SelectStatement Sequence). statements.Select s) Any (select_written sequence_written)
      (λ s. select_form_fits sequence_fits left s.form) always (select_of left sequence deeper)
  unfolding select_of starts
  select_exact =
      placed (λ s. s.place) (codes "select") (λ place.
      last_part (λ s. s.form) select_form_exact
      (λ s ls r p l end. first_is before_end true (word (codes "end")) (λ l ls. refl) (word (codes "select") ∷ semicolon) ls r l) (λ form.
      worded (codes "end") (worded (codes "select") (delimited (codes ";") (
      ready _ _ always (record { place = place; form = form }) ((tt, refl), refl) (λ j p. rw (p.0.1, p.1) refl))))))
