-- The laws of the places of faults: with other tokens behind it, reading stops at the same token.
use Rattle.std.proofs.Common.{◌≡◌, ℕ, zero, suc, ◌-◌, ◌<◌, ◌≤◌, inl, inr, List, [], ◌∷◌, ◌++◌, length, take, drop}
use Rattle.std.proofs.Common.{Result, Ok, Err, refl, sym, ap, subst, ◌∙◌, append_assoc, length-append, arith}
use Rattle.ada_tree.specs.declared.units.Unit.{Unit as Tree}
use Rattle.ada_tree.specs.Written.{Lexeme}
use Rattle.ada_grammar.specs.declared.stuck.Stuck.{Stuck}
use Rattle.ada_grammar.specs.declared.stuck.Stuck.TheVariants as stuck
use Rattle.ada_grammar.specs.declared.faults.ParseFault.{ParseFault}
use Rattle.ada_grammar.specs.declared.faults.ParseFault.TheVariants as faults
use Rattle.ada_grammar.specs.Reading.{Read}
use Rattle.ada_grammar.specs.ReadingUnits.{placed, source_of, unit_of}
use Rattle.grammar_laws.proofs.Reading.Whole.{spelt_is_read}
use Rattle.grammar_laws.proofs.Faults.Local.{Moves, KeptStuck}
use Rattle.grammar_laws.proofs.Faults.Units.{local_source}
use Rattle.grammar_laws.specs.FaultLaws.{NoneBeginsWith, NoTreeGoesDeeper, NoTreeGoesOn}

-- ---- a list about one of its items

record Split (ls : List Lexeme) (n : ℕ) : Type 0 where
  pub front : List Lexeme
  pub next : Lexeme
  pub rest : List Lexeme
  pub is : ls ≡ front ++ next ∷ rest
  pub count : length front ≡ n

split : (ls : List Lexeme) (n : ℕ) → n < length ls → Split ls n
split [] n less = absurd (omega (arith, less))
split (l ∷ ls) zero less = record { front = []; next = l; rest = ls; is = refl; count = refl }
split (l ∷ ls) (suc n) less =
    let behind = split ls n (omega (arith, less)) in
    record { front = l ∷ behind.front; next = behind.next; rest = behind.rest; is = ap (λ z. l ∷ z) behind.is; count = ap suc behind.count }

take_front : (front : List Lexeme) (x : Lexeme) (r : List Lexeme) → take (suc (length front)) (front ++ x ∷ r) ≡ front ++ x ∷ []
take_front [] x r = refl
take_front (l ∷ front) x r = ap (λ z. l ∷ z) (take_front front x r)

take_drop : (n : ℕ) (ls : List Lexeme) → take n ls ++ drop n ls ≡ ls
take_drop zero ls = refl
take_drop (suc n) [] = refl
take_drop (suc n) (l ∷ ls) = ap (λ z. l ∷ z) (take_drop n ls)

-- ---- reading with other tokens behind the fault

abbrev Stops : Read Tree → Type 0
Stops (Ok p) = ⊥
Stops (Err why) = Unit {0}

abbrev fault_at : ParseFault → Result Tree ParseFault
fault_at fault = Err fault

abbrev token_of : Result Tree ParseFault → ℕ
token_of (Ok unit) = 0
token_of (Err (faults.Unexpected token)) = token
token_of (Err (faults.TooDeep token)) = token

stops_too : (x : Lexeme) (r s : List Lexeme) (make : ℕ → Stuck) (n : ℕ) (other : Read Tree) → KeptStuck x r s make n other → Stops other
stops_too x r s make n other k = subst Stops (sym k.same) tt

too_late : (front : List Lexeme) (x : Lexeme) (r : List Lexeme) (left token : ℕ) → left ≤ length r → length front ≡ token
    → length (front ++ x ∷ r) - left ≡ token → ⊥
too_late front x r left token later count is = omega (arith, later, count, is, length-append front (x ∷ r))

stops_on : (front : List Lexeme) (x : Lexeme) (r s : List Lexeme) (read other : Read Tree) (token : ℕ) → Moves x r s read other → length front ≡ token
    → placed (length (front ++ x ∷ r)) read ≡ fault_at (faults.Unexpected token) → Stops other
stops_on front x r s (Ok p) other token moves count is = absurd cc
stops_on front x r s (Err (stuck.At left)) other token (inl k) count is = stops_too x r s stuck.At left other k
stops_on front x r s (Err (stuck.At left)) other token (inr later) count is = absurd (too_late front x r left token later count (ap token_of is))
stops_on front x r s (Err (stuck.TooDeep left)) other token moves count is = absurd cc

stops_deeper : (front : List Lexeme) (x : Lexeme) (r s : List Lexeme) (read other : Read Tree) (token : ℕ) → Moves x r s read other → length front ≡ token
    → placed (length (front ++ x ∷ r)) read ≡ fault_at (faults.TooDeep token) → Stops other
stops_deeper front x r s (Ok p) other token moves count is = absurd cc
stops_deeper front x r s (Err (stuck.At left)) other token moves count is = absurd cc
stops_deeper front x r s (Err (stuck.TooDeep left)) other token (inl k) count is = stops_too x r s stuck.TooDeep left other k
stops_deeper front x r s (Err (stuck.TooDeep left)) other token (inr later) count is = absurd (too_late front x r left token later count (ap token_of is))

-- ---- no tree is read of them, and so none spells them

not_read : (n : ℕ) (read : Read Tree) (unit : Tree) → Stops read → placed n read ≡ Ok unit → ⊥
not_read n (Ok p) unit stops is = stops
not_read n (Err why) unit stops is = cc

no_tree : (others : List Lexeme) (unit : Tree) → Stops (source_of 100 others) → unit_of others ≡ Ok unit → ⊥
unfolding unit_of
no_tree others unit stops is = not_read (length others) (source_of 100 others) unit stops is

-- lists that begin with the same tokens
begins_alike : (front : List Lexeme) (x : Lexeme) (others : List Lexeme) → take (length (front ++ x ∷ [])) others ≡ front ++ x ∷ []
    → others ≡ front ++ x ∷ drop (length (front ++ x ∷ [])) others
begins_alike front x others same =
    let n = length (front ++ x ∷ []) in
    sym (take_drop n others) ∙ (ap (λ z. z ++ drop n others) same ∙ append_assoc front (x ∷ []) (drop n others))

none_of_split : (front : List Lexeme) (x : Lexeme) → ((s : List Lexeme) → Stops (source_of 100 (front ++ x ∷ s))) → NoneBeginsWith (front ++ x ∷ [])
none_of_split front x stops others unit same spells shaped =
    no_tree others unit (subst (λ ls. Stops (source_of 100 ls)) (sym (begins_alike front x others same)) (stops (drop (length (front ++ x ∷ [])) others)))
    (spelt_is_read unit others spells shaped)

none_of_front : (lexemes : List Lexeme) (token : ℕ) (s : Split lexemes token) → NoneBeginsWith (s.front ++ s.next ∷ [])
    → NoneBeginsWith (take (suc token) lexemes)
none_of_front lexemes token s none =
    subst NoneBeginsWith
    (sym (ap (λ n. take (suc n) lexemes) (sym s.count) ∙ (ap (λ ls. take (suc (length s.front)) ls) s.is ∙ take_front s.front s.next s.rest))) none

read_at : (lexemes : List Lexeme) (fault : ParseFault) (front : List Lexeme) (x : Lexeme) (r : List Lexeme) → lexemes ≡ front ++ x ∷ r
    → unit_of lexemes ≡ Err fault → placed (length (front ++ x ∷ r)) (source_of 100 (front ++ x ∷ r)) ≡ fault_at fault
unfolding unit_of
read_at lexemes fault front x r same is = subst (λ ls. placed (length ls) (source_of 100 ls) ≡ fault_at fault) same is

pub no_tree_goes_on : NoTreeGoesOn
no_tree_goes_on lexemes token is less =
    let at = split lexemes token less in
    none_of_front lexemes token at
    (none_of_split at.front at.next
    (λ s. stops_on at.front at.next at.rest s (source_of 100 (at.front ++ at.next ∷ at.rest)) (source_of 100 (at.front ++ at.next ∷ s)) token
    ((local_source 100).moves at.front at.next at.rest s) at.count (read_at lexemes (faults.Unexpected token) at.front at.next at.rest at.is is)))

pub no_tree_goes_deeper : NoTreeGoesDeeper
no_tree_goes_deeper lexemes token is less =
    let at = split lexemes token less in
    none_of_front lexemes token at
    (none_of_split at.front at.next
    (λ s. stops_deeper at.front at.next at.rest s (source_of 100 (at.front ++ at.next ∷ at.rest)) (source_of 100 (at.front ++ at.next ∷ s)) token
    ((local_source 100).moves at.front at.next at.rest s) at.count (read_at lexemes (faults.TooDeep token) at.front at.next at.rest at.is is)))
