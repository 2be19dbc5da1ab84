-- Single tokens: what is read so spells so, and what spells so is read.
use Rattle.std.proofs.Common.{◌≡◌, ℕ, Bool, true, false, cond, not, ◌&&◌, List, [], ◌∷◌, length, Ok, Err, refl, sym, ap, subst, ◌∙◌}
use Rattle.std.proofs.lemmas.Bool.{false≢true, not-true}
use Rattle.std.proofs.lemmas.Slice.Eq.{bytes_eq-Decides}
use Rattle.std.specs.List.{list_all}
use Rattle.std.specs.Str.{bytes_eq}
use Rattle.ann_base.specs.declared.places.Place.{Place}
use Rattle.ada_lex.specs.declared.tokens.Kind.{Kind}
use Rattle.ada_lex.specs.declared.tokens.Kind.TheVariants as kinds
use Rattle.ada_lex.specs.Reserved.{is_reserved}
use Rattle.ada_tree.specs.declared.names.Identifier.{Identifier}
use Rattle.ada_tree.specs.Written.{Written, Lexeme, Spells, word, word_at, delimiter, delimiter_at}
use Rattle.ada_tree.specs.Written.{number_at, text_at, identifier_written, one_identifier, flag}
use Rattle.ada_grammar.specs.declared.stuck.Stuck.TheVariants as stuck
use Rattle.ada_grammar.specs.Reading.{Read, Parser, and_then, ◌>>=◌, pure, choose, is_word, is_number, is_text, is_delimiter}
use Rattle.ada_grammar.specs.Reading.{is_this_word, is_this_delimiter, is_identifier, is_numeral, is_string, starts, token, sees_word}
use Rattle.ada_grammar.specs.Reading.{sees_delimiter, sees_identifier, the_word, the_delimiter, an_identifier, a_number, a_text, flag_of}
use Rattle.grammar_laws.specs.Leads.{Leads}
use Rattle.grammar_laws.proofs.Reading.Leading.{spelt_is}
use Rattle.grammar_laws.proofs.Reading.Exact.{done, pair_of, parts, Found, Rest, Any, itself, Exact, first_true, second_true, fixed}

-- ---- kinds

word_kind : (kind : Kind) → is_word kind ≡ true → kind ≡ kinds.Word
word_kind kinds.Word e = refl
word_kind kinds.Number e = absurd (false≢true e)
word_kind kinds.Text e = absurd (false≢true e)
word_kind kinds.Delimiter e = absurd (false≢true e)

number_kind : (kind : Kind) → is_number kind ≡ true → kind ≡ kinds.Number
number_kind kinds.Word e = absurd (false≢true e)
number_kind kinds.Number e = refl
number_kind kinds.Text e = absurd (false≢true e)
number_kind kinds.Delimiter e = absurd (false≢true e)

text_kind : (kind : Kind) → is_text kind ≡ true → kind ≡ kinds.Text
text_kind kinds.Word e = absurd (false≢true e)
text_kind kinds.Number e = absurd (false≢true e)
text_kind kinds.Text e = refl
text_kind kinds.Delimiter e = absurd (false≢true e)

delimiter_kind : (kind : Kind) → is_delimiter kind ≡ true → kind ≡ kinds.Delimiter
delimiter_kind kinds.Word e = absurd (false≢true e)
delimiter_kind kinds.Number e = absurd (false≢true e)
delimiter_kind kinds.Text e = absurd (false≢true e)
delimiter_kind kinds.Delimiter e = refl

same_text : (a b : List ℕ) → bytes_eq a b ≡ true → a ≡ b
same_text a b e = (bytes_eq-Decides a b).0 e

text_same : (a : List ℕ) → bytes_eq a a ≡ true
text_same a = (bytes_eq-Decides a a).1 refl

-- ---- a token with a value

abbrev pub always : List Lexeme → Bool
always ls = true

abbrev pub shapeless : {A : Type 0} → A → Bool
shapeless a = true

pub all_shapeless : {A : Type 0} (xs : List A) → list_all shapeless xs ≡ true
all_shapeless [] = refl
all_shapeless (x ∷ xs) = all_shapeless xs

record One (test : Lexeme → Bool) (ls : List Lexeme) (l : Lexeme) (r : List Lexeme) : Type 0 where
  parts : ls ≡ l ∷ r
  passes : test l ≡ true

one_read : (test : Lexeme → Bool) (ls : List Lexeme) (l : Lexeme) (r : List Lexeme) → token test ls ≡ done l r → One test ls l r
unfolding token
one_read test [] l r e = absurd cc
one_read test (first ∷ ls) l r e = by_test (test first) refl e
  where
    by_test : (v : Bool) → test first ≡ v → cond {A = Read Lexeme} v (Ok (first, ls)) (Err (stuck.At (length (first ∷ ls)))) ≡ done l r
        → One test (first ∷ ls) l r
    by_test true p e =
        let is = pair_of first l ls r e in
        record { parts = ap (λ z. first ∷ z) is.1 ∙ ap (λ z. z ∷ r) is.0; passes = subst (λ (x : Lexeme). test x ≡ true) is.0 p }
    by_test false p e = absurd cc

pub token_exact : {A : Type 0} (test : Lexeme → Bool) (value : Lexeme → A) (wa : A → Written)
    → ((l : Lexeme) → test l ≡ true → Spells (wa (value l)) l)
    → ((a : A) (l : Lexeme) → Spells (wa a) l → (test l ≡ true) × (value l ≡ a))
    → Exact (λ a. wa a ∷ []) shapeless always (token test >>= λ l. pure (value l))
unfolding token
token_exact {A} test value wa spells reads = record {
  sound = λ ls a r e.
      let s = parts (token test ls) (λ l. pure (value l)) a r e in
      let t = one_read test ls s.value s.rest s.is in
      let n = pair_of (value s.value) a s.rest r s.then in
      record {
        item = a;
        is = refl;
        fits = tt;
        shaped = refl;
        leads = subst (λ (z : List Lexeme). Leads (wa a ∷ []) z r) (sym t.parts) (subst (λ (z : A). Spells (wa z) s.value) n.0 (spells s.value t.passes), n.1);
      };
  complete = λ a ls r q o l end. from a ls r l;
}
  where
    from : (a : A) (ls r : List Lexeme) → Leads (wa a ∷ []) ls r → and_then (token test ls) (λ l. pure (value l)) ≡ done a r
    from a [] r l = absurd l
    from a (l ∷ ls) r s = let is = reads a l s.0 in rw (is.0, is.1, s.1) refl

-- ---- words and delimiters

word_spelt : (text : List ℕ) (l : Lexeme) → is_this_word text l ≡ true → Spells (word_at l.place text) l
word_spelt text l e = record {
  kind = sym (word_kind l.kind (first_true (is_word l.kind) (bytes_eq l.text text) e));
  text = sym (same_text l.text text (second_true (is_word l.kind) (bytes_eq l.text text) e));
  identifier = tt;
  place = refl;
}

word_is : (text : List ℕ) (p : Place) (l : Lexeme) → Spells (word_at p text) l → (is_this_word text l ≡ true) × (l.place ≡ p)
word_is text p l s = (rw (← s.kind, ← s.text) (text_same text), sym s.place)

delimiter_spelt : (text : List ℕ) (l : Lexeme) → is_this_delimiter text l ≡ true → Spells (delimiter_at l.place text) l
delimiter_spelt text l e = record {
  kind = sym (delimiter_kind l.kind (first_true (is_delimiter l.kind) (bytes_eq l.text text) e));
  text = sym (same_text l.text text (second_true (is_delimiter l.kind) (bytes_eq l.text text) e));
  identifier = tt;
  place = refl;
}

delimiter_is : (text : List ℕ) (p : Place) (l : Lexeme) → Spells (delimiter_at p text) l → (is_this_delimiter text l ≡ true) × (l.place ≡ p)
delimiter_is text p l s = (rw (← s.kind, ← s.text) (text_same text), sym s.place)

pub word_exact : (text : List ℕ) → Exact (λ p. word_at p text ∷ []) shapeless always (the_word text)
unfolding the_word
word_exact text = token_exact (is_this_word text) (λ l. l.place) (λ p. word_at p text) (word_spelt text) (word_is text)

pub delimiter_exact : (text : List ℕ) → Exact (λ p. delimiter_at p text ∷ []) shapeless always (the_delimiter text)
unfolding the_delimiter
delimiter_exact text = token_exact (is_this_delimiter text) (λ l. l.place) (λ p. delimiter_at p text) (delimiter_spelt text) (delimiter_is text)

-- ---- without their places

unplaced_word : (text : List ℕ) (p : Place) (ls r : List Lexeme) → Leads (word_at p text ∷ []) ls r → Leads (word text ∷ []) ls r
unplaced_word text p [] r l = l
unplaced_word text p (l ∷ ls) r s = (record { kind = s.0.kind; text = s.0.text; identifier = tt; place = tt }, s.1)

unplaced_delimiter : (text : List ℕ) (p : Place) (ls r : List Lexeme) → Leads (delimiter_at p text ∷ []) ls r → Leads (delimiter text ∷ []) ls r
unplaced_delimiter text p [] r l = l
unplaced_delimiter text p (l ∷ ls) r s = (record { kind = s.0.kind; text = s.0.text; identifier = tt; place = tt }, s.1)

word_there : (text : List ℕ) (l : Lexeme) (ls : List Lexeme) → Spells (word text) l → (p : Place) × (the_word text (l ∷ ls) ≡ done p ls)
word_there text l ls s =
    (l.place, (word_exact text).complete l.place (l ∷ ls) ls tt refl (record { kind = s.kind; text = s.text; identifier = tt; place = refl }, refl) refl)

delimiter_there : (text : List ℕ) (l : Lexeme) (ls : List Lexeme) → Spells (delimiter text) l → (p : Place) × (the_delimiter text (l ∷ ls) ≡ done p ls)
delimiter_there text l ls s =
    (l.place, (delimiter_exact text).complete l.place (l ∷ ls) ls tt refl (record { kind = s.kind; text = s.text; identifier = tt; place = refl }, refl) refl)

word_was : (text : List ℕ) (ls : List Lexeme) (p : Place) (r : List Lexeme) → the_word text ls ≡ done p r → Leads (word text ∷ []) ls r
word_was text ls p r e = let f = (word_exact text).sound ls p r e in unplaced_word text f.item ls r f.leads

delimiter_was : (text : List ℕ) (ls : List Lexeme) (p : Place) (r : List Lexeme) → the_delimiter text ls ≡ done p r → Leads (delimiter text ∷ []) ls r
delimiter_was text ls p r e = let f = (delimiter_exact text).sound ls p r e in unplaced_delimiter text f.item ls r f.leads

-- a word, or a delimiter, of which the item keeps nothing, and what is read behind it
pub word_then : {X I : Type 0} (make : I → X) (P : I → Type 0) (w : I → List Written) (ok : I → Bool) (ends : List Lexeme → Bool) (text : List ℕ) (k : Parser X)
    → Rest make P w ok ends k → Rest make P (λ i. word text ∷ w i) ok ends (the_word text >>= (λ a. k))
word_then make P w ok ends text k more = fixed make P w ok ends (word text) (the_word text) k (word_was text) (word_there text) more

pub delimiter_then : {X I : Type 0} (make : I → X) (P : I → Type 0) (w : I → List Written) (ok : I → Bool) (ends : List Lexeme → Bool) (text : List ℕ)
    (k : Parser X)
    → Rest make P w ok ends k → Rest make P (λ i. delimiter text ∷ w i) ok ends (the_delimiter text >>= (λ a. k))
delimiter_then make P w ok ends text k more = fixed make P w ok ends (delimiter text) (the_delimiter text) k (delimiter_was text) (delimiter_there text) more

-- ---- identifiers, numbers, texts

pub identifier_spelt : (l : Lexeme) → is_identifier l ≡ true → Spells (identifier_written (record { place = l.place; text = l.text })) l
identifier_spelt l e = record {
  kind = sym (word_kind l.kind (first_true (is_word l.kind) (not (is_reserved l.text)) e));
  text = refl;
  identifier = not-true (is_reserved l.text) (second_true (is_word l.kind) (not (is_reserved l.text)) e);
  place = refl;
}

identifier_is : (i : Identifier) (l : Lexeme) → Spells (identifier_written i) l → (is_identifier l ≡ true) × (record { place = l.place; text = l.text } ≡ i)
identifier_is i l s = (rw (← s.kind, s.identifier) refl, rw (← s.text, ← s.place) refl)

pub identifier_exact : Exact one_identifier shapeless always an_identifier
unfolding an_identifier
identifier_exact = token_exact is_identifier (λ l. record { place = l.place; text = l.text }) identifier_written identifier_spelt identifier_is

number_spelt : (l : Lexeme) → is_numeral l ≡ true → Spells (number_at l.place l.text) l
number_spelt l e = record { kind = sym (number_kind l.kind e); text = refl; identifier = tt; place = refl }

number_is : (a : Place × List ℕ) (l : Lexeme) → Spells (number_at a.0 a.1) l → (is_numeral l ≡ true) × ((l.place, l.text) ≡ a)
number_is a l s = (rw (← s.kind) refl, rw (← s.text, ← s.place) refl)

pub number_exact : Exact (λ (a : Place × List ℕ). number_at a.0 a.1 ∷ []) shapeless always a_number
unfolding a_number
number_exact = token_exact is_numeral (λ l. (l.place, l.text)) (λ a. number_at a.0 a.1) number_spelt number_is

text_spelt : (l : Lexeme) → is_string l ≡ true → Spells (text_at l.place l.text) l
text_spelt l e = record { kind = sym (text_kind l.kind e); text = refl; identifier = tt; place = refl }

text_is : (a : Place × List ℕ) (l : Lexeme) → Spells (text_at a.0 a.1) l → (is_string l ≡ true) × ((l.place, l.text) ≡ a)
text_is a l s = (rw (← s.kind) refl, rw (← s.text, ← s.place) refl)

pub text_exact : Exact (λ (a : Place × List ℕ). text_at a.0 a.1 ∷ []) shapeless always a_text
unfolding a_text
text_exact = token_exact is_string (λ l. (l.place, l.text)) (λ a. text_at a.0 a.1) text_spelt text_is

-- ---- what stands there first

pub identifier_seen : (i : Identifier) (l : Lexeme) → Spells (identifier_written i) l → is_identifier l ≡ true
identifier_seen i l s = (identifier_is i l s).0

pub delimiter_seen : (text : List ℕ) (l : Lexeme) → Spells (delimiter text) l → is_this_delimiter text l ≡ true
delimiter_seen text l s = rw (← s.kind, ← s.text) (text_same text)

pub sees_delimiter_first : (text : List ℕ) (ws : List Written) (ls r : List Lexeme) → Leads (delimiter text ∷ ws) ls r → sees_delimiter text ls ≡ true
unfolding starts
sees_delimiter_first text ws [] r l = absurd l
sees_delimiter_first text ws (l ∷ ls) r s = rw (← s.0.kind, ← s.0.text) (text_same text)

pub sees_delimiter_at_first : (text : List ℕ) (p : Place) (ws : List Written) (ls r : List Lexeme) → Leads (delimiter_at p text ∷ ws) ls r
    → sees_delimiter text ls ≡ true
unfolding starts
sees_delimiter_at_first text p ws [] r l = absurd l
sees_delimiter_at_first text p ws (l ∷ ls) r s = rw (← s.0.kind, ← s.0.text) (text_same text)

pub sees_word_first : (text : List ℕ) (ws : List Written) (ls r : List Lexeme) → Leads (word text ∷ ws) ls r → sees_word text ls ≡ true
unfolding starts
sees_word_first text ws [] r l = absurd l
sees_word_first text ws (l ∷ ls) r s = rw (← s.0.kind, ← s.0.text) (text_same text)

pub sees_word_at_first : (text : List ℕ) (p : Place) (ws : List Written) (ls r : List Lexeme) → Leads (word_at p text ∷ ws) ls r → sees_word text ls ≡ true
unfolding starts
sees_word_at_first text p ws [] r l = absurd l
sees_word_at_first text p ws (l ∷ ls) r s = rw (← s.0.kind, ← s.0.text) (text_same text)

pub sees_identifier_first : (i : Identifier) (ws : List Written) (ls r : List Lexeme) → Leads (identifier_written i ∷ ws) ls r → sees_identifier ls ≡ true
unfolding starts
sees_identifier_first i ws [] r l = absurd l
sees_identifier_first i ws (l ∷ ls) r s = rw (← s.0.kind, s.0.identifier) refl

-- an identifier is no reserved word
pub identifier_no_word : (text : List ℕ) → is_reserved text ≡ true → (i : Identifier) (ws : List Written) (ls r : List Lexeme)
    → Leads (identifier_written i ∷ ws) ls r → sees_word text ls ≡ false
unfolding starts
identifier_no_word text reserved i ws [] r l = absurd l
identifier_no_word text reserved i ws (l ∷ ls) r s = by_test (bytes_eq l.text text) refl
  where
    and_false : (p q : Bool) → q ≡ false → (p && q) ≡ false
    and_false true q e = e
    and_false false q e = refl

    by_test : (v : Bool) → bytes_eq l.text text ≡ v → (is_word l.kind && bytes_eq l.text text) ≡ false
    by_test false e = and_false (is_word l.kind) (bytes_eq l.text text) e
    by_test true e = absurd (false≢true (sym s.0.identifier ∙ (ap is_reserved (same_text l.text text e) ∙ reserved)))

-- a token that was seen, so another test of it computes
pub seen_delimiter : (test : List Lexeme → Bool) (v : Bool) (text : List ℕ)
    → ((p : Place) (ls : List Lexeme) → test (record { kind = kinds.Delimiter; text = text; place = p } ∷ ls) ≡ v)
    → (ls : List Lexeme) → sees_delimiter text ls ≡ true → test ls ≡ v
unfolding starts
seen_delimiter test v text on [] e = absurd (false≢true e)
seen_delimiter test v text on (l ∷ ls) e =
    subst (λ (z : Lexeme). test (z ∷ ls) ≡ v) (spelt_is (delimiter_at l.place text) l (delimiter_spelt text l e)) (on l.place ls)

pub seen_word : (test : List Lexeme → Bool) (v : Bool) (text : List ℕ)
    → ((p : Place) (ls : List Lexeme) → test (record { kind = kinds.Word; text = text; place = p } ∷ ls) ≡ v)
    → (ls : List Lexeme) → sees_word text ls ≡ true → test ls ≡ v
unfolding starts
seen_word test v text on [] e = absurd (false≢true e)
seen_word test v text on (l ∷ ls) e = subst (λ (z : Lexeme). test (z ∷ ls) ≡ v) (spelt_is (word_at l.place text) l (word_spelt text l e)) (on l.place ls)

-- ---- a word that may be missing

flagged : (text : List ℕ) (ls : List Lexeme) (x : Bool) (r : List Lexeme) (v : Bool)
    → cond {A = Read Bool} v (and_then (the_word text ls) (λ a. pure true)) (done false ls) ≡ done x r
    → Found itself Any (λ b. flag b (word text ∷ [])) shapeless x ls r
flagged text ls x r true e =
    let s = parts (the_word text ls) (λ a. pure true) x r e in
    let n = pair_of true x s.rest r s.then in
    record {
      item = true;
      is = n.0;
      fits = tt;
      leads = subst (λ (z : List Lexeme). Leads (word text ∷ []) ls z) n.1 (word_was text ls s.value s.rest s.is);
      shaped = refl;
    }
flagged text ls x r false e = let n = pair_of false x ls r e in record { item = false; is = n.0; fits = tt; leads = n.1; shaped = refl }

abbrev pub not_word : List ℕ → List Lexeme → Bool
not_word text r = not (sees_word text r)

sees_it : (text : List ℕ) (ls r : List Lexeme) → Leads (word text ∷ []) ls r → sees_word text ls ≡ true
unfolding starts
sees_it text [] r l = absurd l
sees_it text (l ∷ ls) r s = rw (← s.0.kind, ← s.0.text) (text_same text)

unflagged : (text : List ℕ) (b : Bool) (ls r : List Lexeme) → Leads (flag b (word text ∷ [])) ls r → not_word text r ≡ true
    → choose (sees_word text) (the_word text >>= λ a. pure true) (pure false) ls ≡ done b r
unflagged text false ls r l end = rw (l, not-true (sees_word text r) end) refl
unflagged text true [] r l end = absurd l
unflagged text true (l ∷ ls) r s end = let t = word_there text l ls s.0 in rw (sees_it text (l ∷ ls) ls (s.0, refl), t.1, s.1) refl

pub flag_exact : (text : List ℕ) → Exact (λ b. flag b (word text ∷ [])) shapeless (not_word text) (flag_of text)
unfolding flag_of
flag_exact text = record {
  sound = λ ls x r e. flagged text ls x r (sees_word text ls) e;
  complete = λ b ls r q o l end. unflagged text b ls r l end;
}
