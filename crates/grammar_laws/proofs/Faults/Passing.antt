-- What goes past an identifier, and choices by two tokens.
use Rattle.std.proofs.Common.{◌≡◌, ℕ, zero, suc, Bool, true, false, ◌&&◌, if◌then◌else◌, List, [], ◌∷◌, ◌++◌, length, Ok, Err, refl, subst, arith, codes}
use Rattle.ann_base.specs.declared.places.Place.{Place}
use Rattle.ada_lex.specs.declared.tokens.Kind.{Kind}
use Rattle.ada_lex.specs.declared.tokens.Kind.TheVariants as kinds
use Rattle.ada_tree.specs.declared.expressions.Expression.{Expression}
use Rattle.ada_tree.specs.declared.statements.Sequence.{Sequence}
use Rattle.ada_tree.specs.declared.statements.SequenceRole.{SequenceRole}
use Rattle.ada_tree.specs.Written.{Lexeme}
use Rattle.ada_grammar.specs.declared.stuck.Stuck.TheVariants as stuck
use Rattle.ada_grammar.specs.Reading.{Read, Parser, and_then, ◌>>=◌, choose, too_deep, nothing, starts, starts_both, sees_delimiter}
use Rattle.ada_grammar.specs.Reading.{is_word, is_delimiter, is_this_word, is_this_delimiter, is_identifier, is_numeral, is_string}
use Rattle.ada_grammar.specs.Reading.{token, the_word, an_identifier, a_number, a_text, opening_of, separated_of, name_of}
use Rattle.grammar_laws.proofs.Faults.Local.{Within, Moves, past, Local, head_starts, head_at, local_pure, local_then, then_within, if_within}
use Rattle.grammar_laws.proofs.Faults.Local.{if_moves, stuck_then, local_items, local_behind_delimiter, eats_behind_delimiter, local_identifier}

-- reading goes past a token of this kind
pub record Takes {A : Type 0} (test : Lexeme → Bool) (p : Parser A) : Type 0 where
  pub past_it : (x : Lexeme) (r : List Lexeme) → test x ≡ true → Within (length r) (p (x ∷ r))

abbrev pub Passes : {A : Type 0} → Parser A → Type 0
Passes p = Takes is_identifier p

pub takes_then : {A B : Type 0} {test : Lexeme → Bool} {p : Parser A} {f : A → Parser B} → Takes test p → ((a : A) → Local (f a)) → Takes test (p >>= f)
takes_then {p = p} {f = f} takes local = record { past_it = λ x r is. then_within f (length r) (p (x ∷ r)) local (takes.past_it x r is) }

read_past : (b : Bool) (x : Lexeme) (r : List Lexeme) → b ≡ true → Within (length r) (if b then Ok (x, r) else Err (stuck.At (length (x ∷ r))))
read_past true x r is = omega arith
read_past false x r is = absurd cc

pub takes_token : (test : Lexeme → Bool) → Takes test (token test)
unfolding token
takes_token test = record { past_it = λ x r is. read_past (test x) x r is }

pub takes_word : (text : List ℕ) → Takes (is_this_word text) (the_word text)
unfolding the_word
takes_word text = takes_then (takes_token (is_this_word text)) (λ l. local_pure l.place)

pub takes_number : Takes is_numeral a_number
unfolding a_number
takes_number = takes_then (takes_token is_numeral) (λ l. local_pure _)

pub takes_text : Takes is_string a_text
unfolding a_text
takes_text = takes_then (takes_token is_string) (λ l. local_pure _)

pub passes_identifier : Passes an_identifier
unfolding an_identifier
passes_identifier = takes_then (takes_token is_identifier) (λ l. local_pure _)

pub passes_name : Passes name_of
unfolding name_of separated_of
passes_name =
    takes_then (takes_then passes_identifier
    (λ first.
    local_then (local_items (head_starts _) (local_behind_delimiter _ local_identifier) (eats_behind_delimiter _ local_identifier)) (λ others. local_pure _)))
    (λ parts. local_pure _)

if_past : {A : Type 0} (n : ℕ) (b : Bool) (p q : Read A) → (b ≡ true → Within n p) → Within n q → Within n (if b then p else q)
if_past n true p q h k = h refl
if_past n false p q h k = k

-- where the next token is not such a one, the other part goes past the identifier
pub passes_choose : {A : Type 0} (test : Lexeme → Bool) {p q : Parser A} → Takes test p → Passes q → Passes (choose (starts test) p q)
unfolding starts
passes_choose test {p = p} {q = q} takes passes = record {
  past_it = λ x r is. if_past (length r) (test x) (p (x ∷ r)) (q (x ∷ r)) (takes.past_it x r) (passes.past_it x r is);
}

no_delimiter_of : (k : Kind) (b c : Bool) → is_word k && b ≡ true → is_delimiter k && c ≡ true → ⊥
no_delimiter_of kinds.Word b c is delimited = cc
no_delimiter_of kinds.Number b c is delimited = cc
no_delimiter_of kinds.Text b c is delimited = cc
no_delimiter_of kinds.Delimiter b c is delimited = cc

pub passes_delimiter : {A : Type 0} (text : List ℕ) (p : Parser A) {q : Parser A} → Passes q → Passes (choose (sees_delimiter text) p q)
unfolding starts
passes_delimiter text p {q = q} passes = record {
  past_it =
      λ x r is. if_past (length r) (is_this_delimiter text x) (p (x ∷ r)) (q (x ∷ r)) (λ delimited. absurd (no_delimiter_of x.kind _ _ is delimited))
      (passes.past_it x r is);
}

-- ---- a choice by an identifier and the token behind it

module _ {A : Type 0} (second : Lexeme → Bool) (p q : Parser A) (first : Local p) (other : Local q) (passes : Passes p) (passes_other : Passes q) where
  both_first : (x : Lexeme) (r s : List Lexeme) (b : Bool) → is_identifier x ≡ b
      → Moves x r s (if (b && starts second r) then p (x ∷ r) else q (x ∷ r)) (if (b && starts second s) then p (x ∷ s) else q (x ∷ s))
  both_first x r s true is =
      past x r s (if starts second r then p (x ∷ r) else q (x ∷ r)) (if starts second s then p (x ∷ s) else q (x ∷ s))
      (if_within (length r) (starts second r) (p (x ∷ r)) (q (x ∷ r)) (passes.past_it x r is) (passes_other.past_it x r is))
  both_first x r s false is = other.moves [] x r s

  both_later : (y : Lexeme) (c : List Lexeme) (x : Lexeme) (r s : List Lexeme) →
      Moves x r s (if (is_identifier y && starts second (c ++ x ∷ r)) then p (y ∷ (c ++ x ∷ r)) else q (y ∷ (c ++ x ∷ r)))
      (if (is_identifier y && starts second (c ++ x ∷ s)) then p (y ∷ (c ++ x ∷ s)) else q (y ∷ (c ++ x ∷ s)))
  both_later y c x r s =
      subst (λ (b : Bool). Moves x r s (if (is_identifier y && starts second (c ++ x ∷ r)) then p (y ∷ (c ++ x ∷ r)) else q (y ∷ (c ++ x ∷ r)))
      (if (is_identifier y && b) then p (y ∷ (c ++ x ∷ s)) else q (y ∷ (c ++ x ∷ s))))
      (head_at (head_starts second) c x r s)
      (if_moves x r s (is_identifier y && starts second (c ++ x ∷ r)) (p (y ∷ (c ++ x ∷ r))) (q (y ∷ (c ++ x ∷ r))) (p (y ∷ (c ++ x ∷ s)))
      (q (y ∷ (c ++ x ∷ s))) (first.moves (y ∷ c) x r s) (other.moves (y ∷ c) x r s))

  both_moves : (c : List Lexeme) (x : Lexeme) (r s : List Lexeme)
      → Moves x r s (choose (starts_both is_identifier second) p q (c ++ x ∷ r)) (choose (starts_both is_identifier second) p q (c ++ x ∷ s))
  unfolding starts_both
  both_moves [] x r s = both_first x r s (is_identifier x) refl
  both_moves (y ∷ c) x r s = both_later y c x r s

  pub local_choose_both : Local (choose (starts_both is_identifier second) p q)
  local_choose_both = record {
    within = λ ls. if_within (length ls) (starts_both is_identifier second ls) (p ls) (q ls) (first.within ls) (other.within ls);
    moves = both_moves;
  }

-- ---- what is always stuck needs nothing behind it

abbrev pub Never : {A : Type 0} → Read A → Type 0
Never (Ok p) = ⊥
Never (Err why) = Unit {0}

never_within : {A B : Type 0} (f : A → Parser B) (n : ℕ) (read : Read A) → Never read → Within n read → Within n (and_then read f)
never_within f n (Ok p) never h = absurd never
never_within f n (Err why) never h = h

never_moves : {A B : Type 0} (f : A → Parser B) (x : Lexeme) (r s : List Lexeme) (read other : Read A) → Never read → Moves x r s read other
    → Moves x r s (and_then read f) (and_then other f)
never_moves f x r s (Ok p) other never h = absurd never
never_moves f x r s (Err why) other never h = stuck_then x r s f why other h

pub local_stuck_then : {A B : Type 0} {p : Parser A} (f : A → Parser B) → Local p → ((ls : List Lexeme) → Never (p ls)) → Local (p >>= f)
local_stuck_then {p = p} f local never = record {
  within = λ ls. never_within f (length ls) (p ls) (never ls) (local.within ls);
  moves = λ c x r s. never_moves f x r s (p (c ++ x ∷ r)) (p (c ++ x ∷ s)) (never (c ++ x ∷ r)) (local.moves c x r s);
}

if_never : {A : Type 0} (b : Bool) (p q : Read A) → Never p → Never q → Never (if b then p else q)
if_never true p q h k = h
if_never false p q h k = k

pub never_opens : (ls : List Lexeme) → Never (opening_of zero ls)
unfolding opening_of
never_opens ls = if_never {A = Place} (sees_delimiter (codes "(") ls) (too_deep ls) (nothing ls) tt tt

-- ---- an expression inside, one level further in

abbrev pub PassesAt : ℕ → Parser Expression → Type 0
PassesAt zero inner = Unit {0}
PassesAt (suc left) inner = Passes inner

pub record Inside (left : ℕ) (inner : Parser Expression) : Type 0 where
  pub local : Local inner
  pub passes : PassesAt left inner

-- ---- sequences that are given

abbrev pub Each : (SequenceRole → Parser Sequence) → Type 0
Each sequence = (r : SequenceRole) → Local (sequence r)
