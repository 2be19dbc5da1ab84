-- What reading answers hangs on the tokens up to the one where it stands, and on no later one.
use Rattle.std.proofs.Common.{◌≡◌, ℕ, zero, suc, ◌<◌, ◌≤◌, ◌⊎◌, inl, inr, Bool, true, false, ◌||◌, if◌then◌else◌}
use Rattle.std.proofs.Common.{List, [], ◌∷◌, ◌++◌, length, Ok, Err, refl, sym, ap, subst, ◌∙◌, arith}
use Rattle.ada_tree.specs.Written.{Lexeme}
use Rattle.ada_grammar.specs.declared.stuck.Stuck.{Stuck}
use Rattle.ada_grammar.specs.declared.stuck.Stuck.TheVariants as stuck
use Rattle.ada_grammar.specs.Reading.{Read, Parser, and_then, ◌>>=◌, pure, nothing, too_deep, choose, starts, is_this_word, is_this_delimiter, is_identifier}
use Rattle.ada_grammar.specs.Reading.{is_numeral, is_string, token, the_word, the_delimiter, an_identifier, a_number, a_text, flag_of, end_name_of}
use Rattle.ada_grammar.specs.Reading.{opening_of, opening_is_of, items_from, items_of, behind_delimiter_of, separated_of, identifiers_of, name_of, names_of}

-- ---- what is left is at most so much

abbrev pub StuckWithin : ℕ → Stuck → Type 0
StuckWithin n (stuck.At left) = left ≤ n
StuckWithin n (stuck.TooDeep left) = left ≤ n

abbrev pub Within : {A : Type 0} → ℕ → Read A → Type 0
Within n (Ok p) = length p.1 ≤ n
Within n (Err why) = StuckWithin n why

stuck_wider : (a b : ℕ) (why : Stuck) → a ≤ b → StuckWithin a why → StuckWithin b why
stuck_wider a b (stuck.At left) less h = omega (arith, less, h)
stuck_wider a b (stuck.TooDeep left) less h = omega (arith, less, h)

wider : {A : Type 0} (a b : ℕ) (read : Read A) → a ≤ b → Within a read → Within b read
wider a b (Ok p) less h = omega (arith, less, h)
wider a b (Err why) less h = stuck_wider a b why less h

-- ---- the same with other tokens behind x, or reading is past x

module _ (x : Lexeme) (r s : List Lexeme) where
  pub record Kept {A : Type 0} (value : A) (m : List Lexeme) (other : Read A) : Type 0 where
    pub front : List Lexeme
    pub is : m ≡ front ++ x ∷ r
    pub same : other ≡ Ok (value, front ++ x ∷ s)

  pub record KeptStuck {A : Type 0} (make : ℕ → Stuck) (n : ℕ) (other : Read A) : Type 0 where
    pub front : List Lexeme
    pub is : n ≡ length (front ++ x ∷ r)
    pub same : other ≡ Err (make (length (front ++ x ∷ s)))

  abbrev pub MovesStuck : {A : Type 0} → Stuck → Read A → Type 0
  MovesStuck (stuck.At n) other = KeptStuck stuck.At n other ⊎ (n ≤ length r)
  MovesStuck (stuck.TooDeep n) other = KeptStuck stuck.TooDeep n other ⊎ (n ≤ length r)

  abbrev pub Moves : {A : Type 0} → Read A → Read A → Type 0
  Moves (Ok p) other = Kept p.0 p.1 other ⊎ (length p.1 ≤ length r)
  Moves (Err why) other = MovesStuck why other

  past_stuck : {A : Type 0} (why : Stuck) (other : Read A) → StuckWithin (length r) why → MovesStuck why other
  past_stuck (stuck.At n) other h = inr h
  past_stuck (stuck.TooDeep n) other h = inr h

  pub past : {A : Type 0} (read other : Read A) → Within (length r) read → Moves read other
  past (Ok p) other h = inr h
  past (Err why) other h = past_stuck why other h

pub record Local {A : Type 0} (p : Parser A) : Type 0 where
  pub within : (ls : List Lexeme) → Within (length ls) (p ls)
  pub moves : (c : List Lexeme) (x : Lexeme) (r s : List Lexeme) → Moves x r s (p (c ++ x ∷ r)) (p (c ++ x ∷ s))

-- what is read has a token at least
pub record Eats {A : Type 0} (p : Parser A) : Type 0 where
  pub less : (ls : List Lexeme) (a : A) (m : List Lexeme) → p ls ≡ Ok (a, m) → length m < length ls

-- a test looks at the next token alone
pub record Head (test : List Lexeme → Bool) : Type 0 where
  pub same : (x : Lexeme) (r s : List Lexeme) → test (x ∷ r) ≡ test (x ∷ s)

-- ---- steps

pub local_pure : {A : Type 0} (a : A) → Local (pure a)
local_pure a = record { within = λ ls. omega arith; moves = λ c x r s. inl (record { front = c; is = refl; same = refl }) }

pub local_nothing : {A : Type 0} → Local {A = A} nothing
local_nothing = record { within = λ ls. omega arith; moves = λ c x r s. inl (record { front = c; is = refl; same = refl }) }

pub local_too_deep : {A : Type 0} → Local {A = A} too_deep
local_too_deep = record { within = λ ls. omega arith; moves = λ c x r s. inl (record { front = c; is = refl; same = refl }) }

pub then_within : {A B : Type 0} (f : A → Parser B) (n : ℕ) (read : Read A) → ((a : A) → Local (f a)) → Within n read → Within n (and_then read f)
then_within f n (Ok p) local h = wider (length p.1) n (f p.0 p.1) h ((local p.0).within p.1)
then_within f n (Err why) local h = h

module _ (x : Lexeme) (r s : List Lexeme) where
  kept_then : {A B : Type 0} (f : A → Parser B) (a : A) (m : List Lexeme) (other : Read A) → ((a : A) → Local (f a)) → Kept x r s a m other
      → Moves x r s (f a m) (and_then other f)
  kept_then f a m other local k =
      subst (λ z. Moves x r s (f a z) (and_then other f)) (sym k.is)
      (subst (λ z. Moves x r s (f a (k.front ++ x ∷ r)) (and_then z f)) (sym k.same) ((local a).moves k.front x r s))

  pub stuck_then : {A B : Type 0} (f : A → Parser B) (why : Stuck) (other : Read A) → MovesStuck x r s why other
      → MovesStuck x r s {A = B} why (and_then other f)
  stuck_then f (stuck.At n) other (inl k) = inl (record { front = k.front; is = k.is; same = ap (λ z. and_then z f) k.same })
  stuck_then f (stuck.At n) other (inr h) = inr h
  stuck_then f (stuck.TooDeep n) other (inl k) = inl (record { front = k.front; is = k.is; same = ap (λ z. and_then z f) k.same })
  stuck_then f (stuck.TooDeep n) other (inr h) = inr h

  then_moves : {A B : Type 0} (f : A → Parser B) (read other : Read A) → ((a : A) → Local (f a)) → Moves x r s read other
      → Moves x r s (and_then read f) (and_then other f)
  then_moves f (Ok p) other local (inl k) = kept_then f p.0 p.1 other local k
  then_moves f (Ok p) other local (inr h) = past x r s (f p.0 p.1) (and_then other f) (wider (length p.1) (length r) (f p.0 p.1) h ((local p.0).within p.1))
  then_moves f (Err why) other local h = stuck_then f why other h

-- two ways to go on, which agree where reading is kept
module _ (x : Lexeme) (r s : List Lexeme) where
  pub then_two : {A B : Type 0} (f g : A → Parser B) (read again : Read A) → Moves x r s read again → ((a : A) (m : List Lexeme) → Within (length m) (f a m)) →
      ((a : A) (c : List Lexeme) → read ≡ Ok (a, c ++ x ∷ r) → again ≡ Ok (a, c ++ x ∷ s) → Moves x r s (f a (c ++ x ∷ r)) (g a (c ++ x ∷ s)))
      → Moves x r s (and_then read f) (and_then again g)
  then_two f g (Ok p) again (inl k) within both =
      subst (λ z. Moves x r s (f p.0 z) (and_then again g)) (sym k.is) (subst (λ z. Moves x r s (f p.0 (k.front ++ x ∷ r)) (and_then z g)) (sym k.same)
      (both p.0 k.front (ap (λ z. Ok (p.0, z)) k.is) k.same))
  then_two f g (Ok p) again (inr h) within both = past x r s (f p.0 p.1) (and_then again g) (wider (length p.1) (length r) (f p.0 p.1) h (within p.0 p.1))
  then_two f g (Err why) again h within both = stuck_then x r s g why again h

pub local_then : {A B : Type 0} {p : Parser A} {f : A → Parser B} → Local p → ((a : A) → Local (f a)) → Local (p >>= f)
local_then {p = p} {f = f} first behind = record {
  within = λ ls. then_within f (length ls) (p ls) behind (first.within ls);
  moves = λ c x r s. then_moves x r s f (p (c ++ x ∷ r)) (p (c ++ x ∷ s)) behind (first.moves c x r s);
}

pub if_within : {A : Type 0} (n : ℕ) (test : Bool) (a b : Read A) → Within n a → Within n b → Within n (if test then a else b)
if_within n true a b h k = h
if_within n false a b h k = k

pub if_moves : {A : Type 0} (x : Lexeme) (r s : List Lexeme) (test : Bool) (a b c d : Read A) → Moves x r s a c → Moves x r s b d
    → Moves x r s (if test then a else b) (if test then c else d)
if_moves x r s true a b c d h k = h
if_moves x r s false a b c d h k = k

pub head_at : {test : List Lexeme → Bool} → Head test → (c : List Lexeme) (x : Lexeme) (r s : List Lexeme) → test (c ++ x ∷ r) ≡ test (c ++ x ∷ s)
head_at head [] x r s = head.same x r s
head_at head (y ∷ c) x r s = head.same y (c ++ x ∷ r) (c ++ x ∷ s)

pub local_choose : {A : Type 0} {test : List Lexeme → Bool} {p q : Parser A} → Head test → Local p → Local q → Local (choose test p q)
local_choose {test = test} {p = p} {q = q} head first second = record {
  within = λ ls. if_within (length ls) (test ls) (p ls) (q ls) (first.within ls) (second.within ls);
  moves =
      λ c x r s. subst (λ (b : Bool). Moves x r s (if test (c ++ x ∷ r) then p (c ++ x ∷ r) else q (c ++ x ∷ r)) (if b then p (c ++ x ∷ s) else q (c ++ x ∷ s)))
      (head_at head c x r s)
      (if_moves x r s (test (c ++ x ∷ r)) (p (c ++ x ∷ r)) (q (c ++ x ∷ r)) (p (c ++ x ∷ s)) (q (c ++ x ∷ s)) (first.moves c x r s) (second.moves c x r s));
}

-- ---- tests

pub head_starts : (test : Lexeme → Bool) → Head (starts test)
unfolding starts
head_starts test = record { same = λ x r s. refl }

pub head_or : {a b : List Lexeme → Bool} → Head a → Head b → Head (λ ls. a ls || b ls)
head_or {a = a} {b = b} first second = record {
  same = λ x r s. ap (λ (z : Bool). z || b (x ∷ r)) (first.same x r s) ∙ ap (λ (z : Bool). a (x ∷ s) || z) (second.same x r s);
}

-- ---- tokens

token_within : (test : Lexeme → Bool) (ls : List Lexeme) → Within (length ls) (token test ls)
unfolding token
token_within test [] = omega arith
token_within test (l ∷ ls) = if_within (length (l ∷ ls)) (test l) (Ok (l, ls)) (Err (stuck.At (length (l ∷ ls)))) (omega arith) (omega arith)

token_moves : (test : Lexeme → Bool) (c : List Lexeme) (x : Lexeme) (r s : List Lexeme) → Moves x r s (token test (c ++ x ∷ r)) (token test (c ++ x ∷ s))
unfolding token
token_moves test [] x r s =
    if_moves x r s (test x) (Ok (x, r)) (Err (stuck.At (length (x ∷ r)))) (Ok (x, s)) (Err (stuck.At (length (x ∷ s)))) (inr (omega arith))
    (inl (record { front = []; is = refl; same = refl }))
token_moves test (y ∷ c) x r s =
    if_moves x r s (test y) (Ok (y, c ++ x ∷ r)) (Err (stuck.At (length (y ∷ (c ++ x ∷ r))))) (Ok (y, c ++ x ∷ s)) (Err (stuck.At (length (y ∷ (c ++ x ∷ s)))))
    (inl (record { front = c; is = refl; same = refl })) (inl (record { front = y ∷ c; is = refl; same = refl }))

pub local_token : (test : Lexeme → Bool) → Local (token test)
local_token test = record { within = token_within test; moves = token_moves test }

pub local_word : (text : List ℕ) → Local (the_word text)
unfolding the_word
local_word text = local_then (local_token (is_this_word text)) (λ l. local_pure l.place)

pub local_delimiter : (text : List ℕ) → Local (the_delimiter text)
unfolding the_delimiter
local_delimiter text = local_then (local_token (is_this_delimiter text)) (λ l. local_pure l.place)

pub local_identifier : Local an_identifier
unfolding an_identifier
local_identifier = local_then (local_token is_identifier) (λ l. local_pure _)

pub local_number : Local a_number
unfolding a_number
local_number = local_then (local_token is_numeral) (λ l. local_pure _)

pub local_text : Local a_text
unfolding a_text
local_text = local_then (local_token is_string) (λ l. local_pure _)

-- ---- what eats a token

abbrev read_as : {A : Type 0} → A → List Lexeme → Read A
read_as a m = Ok (a, m)

abbrev left_in : {A : Type 0} → Read A → ℕ
left_in (Ok p) = length p.1
left_in (Err why) = 0

by_test : (b : Bool) (l : Lexeme) (ls : List Lexeme) (a : Lexeme) (m : List Lexeme) (n : ℕ) → (if b then read_as l ls else Err (stuck.At n)) ≡ Ok (a, m)
    → length m < suc (length ls)
by_test true l ls a m n e = omega (arith, ap left_in e)
by_test false l ls a m n e = absurd cc

read_token : (test : Lexeme → Bool) (ls : List Lexeme) (a : Lexeme) (m : List Lexeme) → token test ls ≡ Ok (a, m) → length m < length ls
unfolding token
read_token test [] a m e = absurd cc
read_token test (l ∷ ls) a m e = by_test (test l) l ls a m (length (l ∷ ls)) e

pub eats_token : (test : Lexeme → Bool) → Eats (token test)
eats_token test = record { less = read_token test }

pub eats_nothing : {A : Type 0} → Eats {A = A} nothing
eats_nothing = record { less = λ ls a m e. absurd cc }

pub eats_too_deep : {A : Type 0} → Eats {A = A} too_deep
eats_too_deep = record { less = λ ls a m e. absurd cc }

pub ok_within : {A : Type 0} (n : ℕ) (read : Read A) (a : A) (m : List Lexeme) → Within n read → read ≡ Ok (a, m) → length m ≤ n
ok_within n (Ok p) a m h e = omega (arith, h, ap left_in e)
ok_within n (Err why) a m h e = absurd cc

first_eats : {A B : Type 0} (f : A → Parser B) (n : ℕ) (read : Read A) (b : B) (m : List Lexeme) → ((a : A) (k : List Lexeme) → read ≡ Ok (a, k) → length k < n)
    → ((a : A) → Local (f a)) → and_then read f ≡ Ok (b, m) → length m < n
first_eats f n (Ok p) b m less local e = omega (arith, less p.0 p.1 refl, ok_within (length p.1) (f p.0 p.1) b m ((local p.0).within p.1) e)
first_eats f n (Err why) b m less local e = absurd cc

pub eats_first : {A B : Type 0} {p : Parser A} {f : A → Parser B} → Eats p → ((a : A) → Local (f a)) → Eats (p >>= f)
eats_first {p = p} {f = f} eats local = record { less = λ ls b m e. first_eats f (length ls) (p ls) b m (eats.less ls) local e }

behind_eats : {A B : Type 0} (f : A → Parser B) (n : ℕ) (read : Read A) (b : B) (m : List Lexeme) → Within n read → ((a : A) → Eats (f a))
    → and_then read f ≡ Ok (b, m) → length m < n
behind_eats f n (Ok p) b m within eats e = omega (arith, within, (eats p.0).less p.1 b m e)
behind_eats f n (Err why) b m within eats e = absurd cc

pub eats_behind : {A B : Type 0} {p : Parser A} {f : A → Parser B} → Local p → ((a : A) → Eats (f a)) → Eats (p >>= f)
eats_behind {p = p} {f = f} local eats = record { less = λ ls b m e. behind_eats f (length ls) (p ls) b m (local.within ls) eats e }

if_eats : {A : Type 0} (n : ℕ) (test : Bool) (r s : Read A) (a : A) (m : List Lexeme) → (r ≡ Ok (a, m) → length m < n) → (s ≡ Ok (a, m) → length m < n)
    → (if test then r else s) ≡ Ok (a, m) → length m < n
if_eats n true r s a m h k e = h e
if_eats n false r s a m h k e = k e

pub eats_choose : {A : Type 0} (test : List Lexeme → Bool) {p q : Parser A} → Eats p → Eats q → Eats (choose test p q)
eats_choose test {p = p} {q = q} first second = record {
  less = λ ls a m e. if_eats (length ls) (test ls) (p ls) (q ls) a m (first.less ls a m) (second.less ls a m) e;
}

pub eats_word : (text : List ℕ) → Eats (the_word text)
unfolding the_word
eats_word text = eats_first (eats_token (is_this_word text)) (λ l. local_pure l.place)

pub eats_delimiter : (text : List ℕ) → Eats (the_delimiter text)
unfolding the_delimiter
eats_delimiter text = eats_first (eats_token (is_this_delimiter text)) (λ l. local_pure l.place)

pub eats_identifier : Eats an_identifier
unfolding an_identifier
eats_identifier = eats_first (eats_token is_identifier) (λ l. local_pure _)

-- ---- small productions

pub local_flag : (text : List ℕ) → Local (flag_of text)
unfolding flag_of
local_flag text = local_choose (head_starts _) (local_then (local_word text) (λ _. local_pure true)) (local_pure false)

pub local_end_name : (name : List ℕ) → Local (end_name_of name)
unfolding end_name_of
local_end_name name = local_flag name

pub local_opening : (left : ℕ) → Local (opening_of left)
unfolding opening_of
local_opening zero = local_choose (head_starts _) local_too_deep local_nothing
local_opening (suc left) = local_delimiter _

pub local_opening_is : (left : ℕ) → Local (opening_is_of left)
unfolding opening_is_of
local_opening_is zero = local_choose (head_starts _) local_too_deep local_nothing
local_opening_is (suc left) = local_word _

-- ---- lists: the fuel is the number of tokens, and each item has one at least

pub next_within : {A B : Type 0} (rest : A → Parser B) (n : ℕ) (read : Read A) → ((a : A) (m : List Lexeme) → Within (length m) (rest a m)) → Within n read
    → Within n (and_then read rest)
next_within rest n (Ok p) each h = wider (length p.1) n (rest p.0 p.1) h (each p.0 p.1)
next_within rest n (Err why) each h = h

items_within : {A : Type 0} (begins : List Lexeme → Bool) (item : Parser A) (fuel : ℕ) (found : List A) (ls : List Lexeme) → Local item
    → Within (length ls) (items_from begins item fuel found ls)
unfolding items_from
items_within begins item zero found ls local = omega arith
items_within begins item (suc fuel) found ls local =
    if_within (length ls) (begins ls) (and_then (item ls) (λ x. items_from begins item fuel (found ++ x ∷ []))) (Ok (found, ls))
    (next_within (λ x. items_from begins item fuel (found ++ x ∷ [])) (length ls) (item ls) (λ x m. items_within begins item fuel (found ++ x ∷ []) m local)
    (local.within ls))
    (omega arith)

pub none : (x : Lexeme) (r c : List Lexeme) → length (c ++ x ∷ r) ≤ 0 → ⊥
none x r [] h = omega (arith, h)
none x r (y ∷ c) h = omega (arith, h)

-- ---- reading the items again with other tokens behind x

module _ (x : Lexeme) (r s : List Lexeme) where
  abbrev Both : {A : Type 0} (begins : List Lexeme → Bool) (item : Parser A) (fuel other : ℕ) → Type 0
  Both {A = A} begins item fuel other =
      (found : List A) (c : List Lexeme) → length (c ++ x ∷ r) ≤ fuel → length (c ++ x ∷ s) ≤ other
      → Moves x r s (items_from begins item fuel found (c ++ x ∷ r)) (items_from begins item other found (c ++ x ∷ s))

  kept_items : {A : Type 0} (begins : List Lexeme → Bool) (item : Parser A) (fuel other : ℕ) (found : List A) (a : A) (m : List Lexeme) (again : Read A)
      → Both begins item fuel other → Kept x r s a m again → length m ≤ fuel
      → ((front : List Lexeme) → again ≡ Ok (a, front ++ x ∷ s) → length (front ++ x ∷ s) ≤ other) →
      Moves x r s (items_from begins item fuel (found ++ a ∷ []) m) (and_then again (λ y. items_from begins item other (found ++ y ∷ [])))
  kept_items begins item fuel other found a m again both k enough enough_again =
      subst (λ z. Moves x r s (items_from begins item fuel (found ++ a ∷ []) z) (and_then again (λ y. items_from begins item other (found ++ y ∷ []))))
      (sym k.is)
      (subst (λ z.
      Moves x r s (items_from begins item fuel (found ++ a ∷ []) (k.front ++ x ∷ r)) (and_then z (λ y. items_from begins item other (found ++ y ∷ []))))
      (sym k.same)
      (both (found ++ a ∷ []) k.front (subst (λ z. length z ≤ fuel) k.is enough) (enough_again k.front k.same)))

  next_moves : {A : Type 0} (begins : List Lexeme → Bool) (item : Parser A) (fuel other : ℕ) (found : List A) (read again : Read A) → Local item
      → Both begins item fuel other → Moves x r s read again →
      ((a : A) (m : List Lexeme) → read ≡ Ok (a, m) → length m ≤ fuel) → ((a : A) (m : List Lexeme) → again ≡ Ok (a, m) → length m ≤ other) →
      Moves x r s (and_then read (λ y. items_from begins item fuel (found ++ y ∷ []))) (and_then again (λ y. items_from begins item other (found ++ y ∷ [])))
  next_moves begins item fuel other found (Ok p) again local both (inl k) enough enough_again =
      kept_items begins item fuel other found p.0 p.1 again both k (enough p.0 p.1 refl) (λ front e. enough_again p.0 (front ++ x ∷ s) e)
  next_moves begins item fuel other found (Ok p) again local both (inr h) enough enough_again =
      past x r s (items_from begins item fuel (found ++ p.0 ∷ []) p.1) (and_then again (λ y. items_from begins item other (found ++ y ∷ [])))
      (wider (length p.1) (length r) (items_from begins item fuel (found ++ p.0 ∷ []) p.1) h (items_within begins item fuel (found ++ p.0 ∷ []) p.1 local))
  next_moves begins item fuel other found (Err why) again local both h enough enough_again =
      stuck_then x r s (λ y. items_from begins item other (found ++ y ∷ [])) why again h

  items_move : {A : Type 0} (begins : List Lexeme → Bool) (item : Parser A) → Head begins → Local item → Eats item → (fuel other : ℕ)
      → Both begins item fuel other
  unfolding items_from
  items_move begins item head local eats zero other found c enough enough_again = absurd (none x r c enough)
  items_move begins item head local eats (suc fuel) zero found c enough enough_again = absurd (none x s c enough_again)
  items_move begins item head local eats (suc fuel) (suc other) found c enough enough_again =
      subst (λ (b : Bool). Moves x r s
      (if begins (c ++ x ∷ r) then and_then (item (c ++ x ∷ r)) (λ y. items_from begins item fuel (found ++ y ∷ [])) else Ok (found, c ++ x ∷ r))
      (if b then and_then (item (c ++ x ∷ s)) (λ y. items_from begins item other (found ++ y ∷ [])) else Ok (found, c ++ x ∷ s))) (head_at head c x r s)
      (if_moves x r s (begins (c ++ x ∷ r)) (and_then (item (c ++ x ∷ r)) (λ y. items_from begins item fuel (found ++ y ∷ []))) (Ok (found, c ++ x ∷ r))
      (and_then (item (c ++ x ∷ s)) (λ y. items_from begins item other (found ++ y ∷ []))) (Ok (found, c ++ x ∷ s))
      (next_moves begins item fuel other found (item (c ++ x ∷ r)) (item (c ++ x ∷ s)) local (items_move begins item head local eats fuel other)
      (local.moves c x r s)
      (λ a m e. omega (arith, eats.less (c ++ x ∷ r) a m e, enough)) (λ a m e. omega (arith, eats.less (c ++ x ∷ s) a m e, enough_again)))
      (inl (record { front = c; is = refl; same = refl })))

pub local_items : {A : Type 0} {begins : List Lexeme → Bool} {item : Parser A} → Head begins → Local item → Eats item → Local (items_of begins item)
unfolding items_of
local_items {begins = begins} {item = item} head local eats = record {
  within = λ ls. items_within begins item (length ls) [] ls local;
  moves = λ c x r s. items_move x r s begins item head local eats (length (c ++ x ∷ r)) (length (c ++ x ∷ s)) [] c (omega arith) (omega arith);
}

pub local_behind_delimiter : {A : Type 0} {item : Parser A} (separator : List ℕ) → Local item → Local (behind_delimiter_of separator item)
unfolding behind_delimiter_of
local_behind_delimiter separator local = local_then (local_delimiter separator) (λ _. local)

pub eats_behind_delimiter : {A : Type 0} {item : Parser A} (separator : List ℕ) → Local item → Eats (behind_delimiter_of separator item)
unfolding behind_delimiter_of
eats_behind_delimiter separator local = eats_first (eats_delimiter separator) (λ _. local)

pub local_separated : {A : Type 0} {item : Parser A} (separator : List ℕ) → Local item → Local (separated_of separator item)
unfolding separated_of
local_separated separator local =
    local_then local
    (λ first.
    local_then (local_items (head_starts _) (local_behind_delimiter separator local) (eats_behind_delimiter separator local)) (λ others. local_pure _))

pub eats_separated : {A : Type 0} {item : Parser A} (separator : List ℕ) → Local item → Eats item → Eats (separated_of separator item)
unfolding separated_of
eats_separated separator local eats =
    eats_first eats
    (λ first.
    local_then (local_items (head_starts _) (local_behind_delimiter separator local) (eats_behind_delimiter separator local)) (λ others. local_pure _))

pub local_identifiers : Local identifiers_of
unfolding identifiers_of
local_identifiers = local_separated _ local_identifier

pub eats_identifiers : Eats identifiers_of
unfolding identifiers_of
eats_identifiers = eats_separated _ local_identifier eats_identifier

pub local_name : Local name_of
unfolding name_of
local_name = local_then (local_separated _ local_identifier) (λ parts. local_pure _)

pub eats_name : Eats name_of
unfolding name_of
eats_name = eats_first (eats_separated _ local_identifier eats_identifier) (λ parts. local_pure _)

pub local_names : (separator : List ℕ) → Local (names_of separator)
unfolding names_of
local_names separator = local_separated separator local_name
