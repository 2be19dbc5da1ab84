-- What the lines of an effect make of the place of a task: its last `block` line stands behind its `ready` lines, and takes it out.
use Rattle.std.proofs.Common.{◌≡◌, ℕ, Bool, true, false, cond, not, ◌&&◌, ◌||◌, List, [], ◌∷◌, ◌++◌, map, refl, sym, ap, ◌∙◌}
use Rattle.std.proofs.lemmas.Bool.{eqb-true}
use Rattle.trace_text.specs.declared.events.QueueEnd.{QueueEnd}
use Rattle.trace_text.specs.declared.events.QueueEnd.TheVariants.{Head, Tail}
use Rattle.trace_text.specs.declared.events.Who.{Who}
use Rattle.trace_text.specs.declared.events.Who.TheVariants as who
use Rattle.profile_image.specs.declared.image.Image.{Image}
use Rattle.profile_machine.specs.declared.world.lines.Line.{Line}
use Rattle.profile_machine.specs.declared.world.lines.Line.TheVariants as said
use Rattle.profile_machine.specs.declared.world.lines.Part.{Part}
use Rattle.profile_machine.specs.declared.world.lines.Part.TheVariants.{TheCall, TheFinish, Own, OfOther, ThePlacing, TheBlock}
use Rattle.profile_machine.specs.declared.world.lines.Said.{Said}
use Rattle.profile_machine.specs.declared.world.tasks.Placed.{Placed}
use Rattle.profile_image.specs.Words.{same_who}
use Rattle.profile_machine.specs.Lines.{event_of}
use Rattle.profile_machine.specs.Steps.{is_part_before, put_in_order, in_order, is_above, put_at}
use Rattle.profile_machine.specs.Steps.{put_at_tail, put_at_head, take_out, places_after, places_after_all}
use Rattle.machine_laws.proofs.Moves.{lines_of}
use Rattle.line_laws.proofs.Handlers.AgentLines.{or-swap}

-- ---- lines of an effect

abbrev pub is_last_part : Part → Bool
is_last_part TheCall = false
is_last_part TheFinish = false
is_last_part Own = false
is_last_part (OfOther name) = false
is_last_part ThePlacing = false
is_last_part TheBlock = true

abbrev pub readies : Who → Line → Bool
readies n (said.Ready name level end deadline) = same_who n name
readies n _ = false

abbrev pub blocks_it : Who → Line → Bool
blocks_it n (said.Block name why) = same_who n name
blocks_it n _ = false

-- a line of the last part that takes it out, or places it again
abbrev pub takes : Who → Said → Bool
takes n x = is_last_part x.part && blocks_it n x.line

abbrev pub resets : Who → Said → Bool
resets n x = is_last_part x.part && readies n x.line

abbrev pub taken_by : Who → Bool → Said → Bool
taken_by n b x = cond (takes n x) true (cond (resets n x) false b)

abbrev pub taken_from : Who → Bool → List Said → Bool
taken_from n b [] = b
taken_from n b (x ∷ xs) = taken_from n (taken_by n b x) xs

abbrev pub taken : Who → List Said → Bool
taken n xs = taken_from n false xs

-- none places it, and none does in the last part
abbrev pub Quiet : Who → List Said → Type 0
Quiet n [] = Unit {0}
Quiet n (x ∷ xs) = (readies n x.line ≡ false) × Quiet n xs

abbrev pub Early : Who → List Said → Type 0
Early n [] = Unit {0}
Early n (x ∷ xs) = (resets n x ≡ false) × Early n xs

pub Quiet-append : (n : Who) (xs ys : List Said) → Quiet n xs → Quiet n ys → Quiet n (xs ++ ys)
Quiet-append n [] ys a b = b
Quiet-append n (x ∷ xs) ys a b = (a.0, Quiet-append n xs ys a.1 b)

pub Early-append : (n : Who) (xs ys : List Said) → Early n xs → Early n ys → Early n (xs ++ ys)
Early-append n [] ys a b = b
Early-append n (x ∷ xs) ys a b = (a.0, Early-append n xs ys a.1 b)

pub taken_from-append : (n : Who) (b : Bool) (xs ys : List Said) → taken_from n b (xs ++ ys) ≡ taken_from n (taken_from n b xs) ys
taken_from-append n b [] ys = refl
taken_from-append n b (x ∷ xs) ys = taken_from-append n (taken_by n b x) xs ys

-- what is taken stays so, where nothing places it in the last part; and more is taken from more
still-step : (t r : Bool) → r ≡ false → cond t true (cond r false true) ≡ true
still-step true r e = refl
still-step false true e = absurd cc
still-step false false e = refl

pub still-taken : (n : Who) (xs : List Said) → Early n xs → taken_from n true xs ≡ true
still-taken n [] h = refl
still-taken n (x ∷ xs) h = ap (λ b. taken_from n b xs) (still-step (takes n x) (resets n x) h.0) ∙ still-taken n xs h.1

more-step : (t r : Bool) (P : Bool → Type 0) → P (cond t true (cond r false false)) → (P false → P true) → P (cond t true (cond r false true))
more-step true r P h k = h
more-step false true P h k = h
more-step false false P h k = k h

pub more-taken : (n : Who) (xs : List Said) → taken_from n false xs ≡ true → taken_from n true xs ≡ true
more-taken n [] h = absurd cc
more-taken n (x ∷ xs) h = more-step (takes n x) (resets n x) (λ b. taken_from n b xs ≡ true) h (λ k. more-taken n xs k)

-- ---- in their order

lows : List Said → List Said
lows [] = []
lows (x ∷ xs) = cond (is_last_part x.part) (lows xs) (x ∷ lows xs)

highs : List Said → List Said
highs [] = []
highs (x ∷ xs) = cond (is_last_part x.part) (x ∷ highs xs) (highs xs)

AllLow : List Said → Type 0
AllLow [] = Unit {0}
AllLow (x ∷ xs) = (is_last_part x.part ≡ false) × AllLow xs

AllHigh : List Said → Type 0
AllHigh [] = Unit {0}
AllHigh (x ∷ xs) = (is_last_part x.part ≡ true) × AllHigh xs

low_before_high : (a b : Part) → is_last_part a ≡ false → is_last_part b ≡ true → is_part_before a b ≡ true
low_before_high TheCall TheBlock e f = refl
low_before_high TheFinish TheBlock e f = refl
low_before_high Own TheBlock e f = refl
low_before_high (OfOther name) TheBlock e f = refl
low_before_high ThePlacing TheBlock e f = refl
low_before_high TheBlock TheBlock e f = absurd cc
low_before_high a TheCall e f = absurd cc
low_before_high a TheFinish e f = absurd cc
low_before_high a Own e f = absurd cc
low_before_high a (OfOther name) e f = absurd cc
low_before_high a ThePlacing e f = absurd cc

high_not_before : (a b : Part) → is_last_part a ≡ true → is_part_before a b ≡ false
high_not_before TheBlock TheCall e = refl
high_not_before TheBlock TheFinish e = refl
high_not_before TheBlock Own e = refl
high_not_before TheBlock (OfOther name) e = refl
high_not_before TheBlock ThePlacing e = refl
high_not_before TheBlock TheBlock e = refl
high_not_before TheCall b e = absurd cc
high_not_before TheFinish b e = absurd cc
high_not_before Own b e = absurd cc
high_not_before (OfOther name) b e = absurd cc
high_not_before ThePlacing b e = absurd cc

put-first : (x : Said) (hs : List Said) → AllHigh hs → put_in_order x hs ≡ x ∷ hs
unfolding AllHigh
put-first x [] h = refl
put-first x (y ∷ hs) h = ap (λ t. cond t (y ∷ put_in_order x hs) (x ∷ y ∷ hs)) (high_not_before y.part x.part h.0)

put-high : (x : Said) (ls hs : List Said) → is_last_part x.part ≡ true → AllLow ls → AllHigh hs → put_in_order x (ls ++ hs) ≡ ls ++ x ∷ hs
unfolding AllLow
put-high x [] hs e a h = put-first x hs h
put-high x (y ∷ ls) hs e a h =
    ap (λ t. cond t (y ∷ put_in_order x (ls ++ hs)) (x ∷ y ∷ (ls ++ hs))) (low_before_high y.part x.part a.0 e)
    ∙ ap (λ rest. y ∷ rest) (put-high x ls hs e a.1 h)

put-low-step : (y x : Said) (rest ls hs more : List Said) (b : Bool) → more ≡ rest ++ hs
    → cond b (y ∷ more) (x ∷ y ∷ (ls ++ hs)) ≡ cond b (y ∷ rest) (x ∷ y ∷ ls) ++ hs
put-low-step y x rest ls hs more true e = ap (λ zs. y ∷ zs) e
put-low-step y x rest ls hs more false e = refl

put-low : (x : Said) (ls hs : List Said) → AllHigh hs → put_in_order x (ls ++ hs) ≡ put_in_order x ls ++ hs
put-low x [] hs h = put-first x hs h
put-low x (y ∷ ls) hs h = put-low-step y x (put_in_order x ls) ls hs (put_in_order x (ls ++ hs)) (is_part_before y.part x.part) (put-low x ls hs h)

low-put : (x : Said) (ls : List Said) → is_last_part x.part ≡ false → AllLow ls → AllLow (put_in_order x ls)
unfolding AllLow
low-put x [] e a = (e, tt)
low-put x (y ∷ ls) e a = step (is_part_before y.part x.part) (low-put x ls e a.1) where
  step : (b : Bool) → AllLow (put_in_order x ls) → AllLow (cond b (y ∷ put_in_order x ls) (x ∷ y ∷ ls))
  step true k = (a.0, k)
  step false k = (e, a)

record Apart (xs : List Said) : Type 0 where
  low : AllLow (in_order (lows xs))
  high : AllHigh (highs xs)
  shape : in_order xs ≡ in_order (lows xs) ++ highs xs

apart-step : (x : Said) (xs : List Said) (b : Bool) → is_last_part x.part ≡ b → AllLow (in_order (lows xs)) → AllHigh (highs xs)
    → in_order xs ≡ in_order (lows xs) ++ highs xs
    → AllLow (in_order (cond b (lows xs) (x ∷ lows xs))) × AllHigh (cond b (x ∷ highs xs) (highs xs))
    × (put_in_order x (in_order xs) ≡ in_order (cond b (lows xs) (x ∷ lows xs)) ++ cond b (x ∷ highs xs) (highs xs))
unfolding AllHigh
apart-step x xs true e low high shape = (low, (e, high), ap (put_in_order x) shape ∙ put-high x (in_order (lows xs)) (highs xs) e low high)
apart-step x xs false e low high shape = (
  low-put x (in_order (lows xs)) e low,
  high,
  ap (put_in_order x) shape ∙ put-low x (in_order (lows xs)) (highs xs) high,
)

apart : (xs : List Said) → Apart xs
unfolding AllLow AllHigh lows highs
apart [] = record { low = tt; high = tt; shape = refl }
apart (x ∷ xs) =
    let h = apart xs in
    let s = apart-step x xs (is_last_part x.part) refl h.low h.high h.shape in
    record { low = s.0; high = s.1; shape = s.2 }

-- ---- who is placed behind lines

abbrev pub is_placed : Who → List Placed → Bool
is_placed n [] = false
is_placed n (x ∷ xs) = same_who n x.who || is_placed n xs

-- the bit behind a line
abbrev bit_after : Who → Bool → Line → Bool
bit_after n b (said.Ready name level end deadline) = same_who n name || b
bit_after n b (said.Block name why) = not (same_who n name) && b
bit_after n b (said.Done task) = not (same_who n (who.Task task)) && b
bit_after n b _ = b

abbrev bit_behind : Who → Bool → List Said → Bool
bit_behind n b [] = b
bit_behind n b (x ∷ xs) = bit_behind n (bit_after n b x.line) xs

bit_behind-append : (n : Who) (b : Bool) (xs ys : List Said) → bit_behind n b (xs ++ ys) ≡ bit_behind n (bit_behind n b xs) ys
bit_behind-append n b [] ys = refl
bit_behind-append n b (x ∷ xs) ys = bit_behind-append n (bit_after n b x.line) xs ys

placed-tail : (n : Who) (x : Placed) (xs : List Placed) → is_placed n (put_at_tail x xs) ≡ (same_who n x.who || is_placed n xs)
placed-tail n x [] = refl
placed-tail n x (y ∷ ys) = step (is_above x y) (placed-tail n x ys) where
  step : (b : Bool) → is_placed n (put_at_tail x ys) ≡ (same_who n x.who || is_placed n ys)
      → is_placed n (cond b (x ∷ y ∷ ys) (y ∷ put_at_tail x ys)) ≡ (same_who n x.who || (same_who n y.who || is_placed n ys))
  step true k = refl
  step false k = ap (λ t. same_who n y.who || t) k ∙ or-swap (same_who n y.who) (same_who n x.who) (is_placed n ys)

placed-head : (n : Who) (x : Placed) (xs : List Placed) → is_placed n (put_at_head x xs) ≡ (same_who n x.who || is_placed n xs)
placed-head n x [] = refl
placed-head n x (y ∷ ys) = step (is_above y x) (placed-head n x ys) where
  step : (b : Bool) → is_placed n (put_at_head x ys) ≡ (same_who n x.who || is_placed n ys)
      → is_placed n (cond b (y ∷ put_at_head x ys) (x ∷ y ∷ ys)) ≡ (same_who n x.who || (same_who n y.who || is_placed n ys))
  step true k = ap (λ t. same_who n y.who || t) k ∙ or-swap (same_who n y.who) (same_who n x.who) (is_placed n ys)
  step false k = refl

placed-at : (n : Who) (end : QueueEnd) (x : Placed) (xs : List Placed) → is_placed n (put_at end x xs) ≡ (same_who n x.who || is_placed n xs)
placed-at n Tail x xs = placed-tail n x xs
placed-at n Head x xs = placed-head n x xs

-- nobody is placed who is taken out, and no other is
out-at_most : (n m : Who) (xs : List Placed) → is_placed n xs ≡ false → is_placed n (take_out m xs) ≡ false
out-at_most n m [] e = refl
out-at_most n m (y ∷ ys) e = step (same_who m y.who) (same_who n y.who) e (λ k. out-at_most n m ys k) refl where
  step : (b c : Bool) → (c || is_placed n ys) ≡ false → (is_placed n ys ≡ false → is_placed n (take_out m ys) ≡ false) → same_who n y.who ≡ c
      → is_placed n (cond (not b) (y ∷ take_out m ys) (take_out m ys)) ≡ false
  step true true e k is = absurd cc
  step true false e k is = k e
  step false true e k is = absurd cc
  step false false e k is = ap (λ t. t || is_placed n (take_out m ys)) is ∙ k e

same_path : (a b : Who) → same_who a b ≡ true → a ≡ b
same_path (who.Task a) (who.Task b) e = ap (λ (n : ℕ). who.Task (record { 0 = n })) (eqb-true a.0 b.0 e)
same_path (who.Task a) who.Agent e = absurd cc
same_path who.Agent (who.Task b) e = absurd cc
same_path who.Agent who.Agent e = refl

out-same : (n m : Who) (xs : List Placed) → same_who n m ≡ true → is_placed n (take_out m xs) ≡ false
out-same n m [] e = refl
out-same n m (y ∷ ys) e = step (same_who m y.who) refl (out-same n m ys e) where
  step : (b : Bool) → same_who m y.who ≡ b → is_placed n (take_out m ys) ≡ false → is_placed n (cond (not b) (y ∷ take_out m ys) (take_out m ys)) ≡ false
  step true is k = k
  step false is k = ap (λ t. t || is_placed n (take_out m ys)) (ap (λ z. same_who z y.who) (same_path n m e) ∙ is) ∙ k

-- where the bit says no, it is not placed
out-bit : (n m : Who) (b test : Bool) (places : List Placed) → same_who n m ≡ test → (not test && b) ≡ false → (b ≡ false → is_placed n places ≡ false)
    → is_placed n (take_out m places) ≡ false
out-bit n m b true places is e k = out-same n m places is
out-bit n m b false places is e k = out-at_most n m places (k e)

ready-bit : (n m : Who) (b test : Bool) (end : QueueEnd) (x : Placed) (places : List Placed) → x.who ≡ m → same_who n m ≡ test → (test || b) ≡ false
    → (b ≡ false → is_placed n places ≡ false) → is_placed n (put_at end x (take_out m places)) ≡ false
ready-bit n m b true end x places same is e k = absurd cc
ready-bit n m b false end x places same is e k =
    placed-at n end x (take_out m places) ∙ ap (λ t. t || is_placed n (take_out m places)) (ap (same_who n) same ∙ is) ∙ out-at_most n m places (k e)

place-step : (p : Image) (n : Who) (b : Bool) (places : List Placed) (x : Line) → (b ≡ false → is_placed n places ≡ false) → bit_after n b x ≡ false
    → is_placed n (places_after (event_of p x) places) ≡ false
place-step p n b places (said.Ready name level end deadline) k e =
    ready-bit n name b (same_who n name) end (record { who = name; level = level; deadline = deadline }) places refl refl e k
place-step p n b places (said.Block name why) k e = out-bit n name b (same_who n name) places refl e k
place-step p n b places (said.Done task) k e = out-bit n (who.Task task) b (same_who n (who.Task task)) places refl e k
place-step p n b places _ k e = k e

places-behind : (p : Image) (n : Who) (xs : List Said) (b : Bool) (places : List Placed) → (b ≡ false → is_placed n places ≡ false) → bit_behind n b xs ≡ false
    → is_placed n (places_after_all (map (λ x. event_of p x.line) xs) places) ≡ false
places-behind p n [] b places k e = k e
places-behind p n (x ∷ xs) b places k e =
    places-behind p n xs (bit_after n b x.line) (places_after (event_of p x.line) places) (place-step p n b places x.line k) e

-- ---- what the bit says behind lines in order

quiet-step : (n : Who) (x : Line) → readies n x ≡ false → bit_after n false x ≡ false
quiet-step n (said.Ready name level end deadline) e = ap (λ t. t || false) e
quiet-step n (said.Block name why) e = and_no (not (same_who n name)) where
  and_no : (a : Bool) → (a && false) ≡ false
  and_no true = refl
  and_no false = refl
quiet-step n (said.Done task) e = and_no (not (same_who n (who.Task task))) where
  and_no : (a : Bool) → (a && false) ≡ false
  and_no true = refl
  and_no false = refl
quiet-step n _ e = refl

quiet-bit : (n : Who) (xs : List Said) → Quiet n xs → bit_behind n false xs ≡ false
quiet-bit n [] h = refl
quiet-bit n (x ∷ xs) h = ap (λ b. bit_behind n b xs) (quiet-step n x.line h.0) ∙ quiet-bit n xs h.1

quiet-put : (n : Who) (x : Said) (xs : List Said) → readies n x.line ≡ false → Quiet n xs → Quiet n (put_in_order x xs)
quiet-put n x [] e h = (e, tt)
quiet-put n x (y ∷ ys) e h = step (is_part_before y.part x.part) (quiet-put n x ys e h.1) where
  step : (b : Bool) → Quiet n (put_in_order x ys) → Quiet n (cond b (y ∷ put_in_order x ys) (x ∷ y ∷ ys))
  step true k = (h.0, k)
  step false k = (e, h)

quiet-order : (n : Who) (xs : List Said) → Quiet n xs → Quiet n (in_order xs)
quiet-order n [] h = tt
quiet-order n (x ∷ xs) h = quiet-put n x (in_order xs) h.0 (quiet-order n xs h.1)

-- whoever was not placed, and is placed by none, is not
pub quiet_not_placed : (p : Image) (n : Who) (xs : List Said) (places : List Placed) → Quiet n xs → is_placed n places ≡ false
    → is_placed n (places_after_all (lines_of p xs) places) ≡ false
quiet_not_placed p n xs places h e = places-behind p n (in_order xs) false places (λ _. e) (quiet-bit n (in_order xs) (quiet-order n xs h))

-- in the last part the bit follows what is taken
taken-step : (n : Who) (x : Said) (b t : Bool) → is_last_part x.part ≡ true → (t ≡ true → b ≡ false) → taken_by n t x ≡ true → bit_after n b x.line ≡ false
taken-step n x b t last k e =
    line_step n x.line b t k (sym (ap (λ l. cond (l && blocks_it n x.line) true (cond (l && readies n x.line) false t)) last) ∙ e) where
      line_step : (n : Who) (l : Line) (b t : Bool) → (t ≡ true → b ≡ false) → cond (blocks_it n l) true (cond (readies n l) false t) ≡ true
          → bit_after n b l ≡ false
      line_step n (said.Ready name level end deadline) b t k e = ready (same_who n name) e where
        ready : (same : Bool) → cond same false t ≡ true → (same || b) ≡ false
        ready true e = absurd cc
        ready false e = k e
      line_step n (said.Block name why) b t k e = block (same_who n name) e where
        block : (same : Bool) → cond same true t ≡ true → (not same && b) ≡ false
        block true e = refl
        block false e = k e
      line_step n (said.Done task) b t k e = done_step (not (same_who n (who.Task task))) (k e) where
        done_step : (a : Bool) → b ≡ false → (a && b) ≡ false
        done_step true f = f
        done_step false f = refl
      line_step n _ b t k e = k e

taken-bit : (n : Who) (xs : List Said) (b t : Bool) → AllHigh xs → (t ≡ true → b ≡ false) → taken_from n t xs ≡ true → bit_behind n b xs ≡ false
unfolding AllHigh
taken-bit n [] b t h k e = k e
taken-bit n (x ∷ xs) b t h k e = taken-bit n xs (bit_after n b x.line) (taken_by n t x) h.1 (λ f. taken-step n x b t h.0 k f) e

-- only lines of the last part take
high-taken : (n : Who) (xs : List Said) (t : Bool) → taken_from n t (highs xs) ≡ taken_from n t xs
unfolding highs
high-taken n [] t = refl
high-taken n (x ∷ xs) t = step (is_last_part x.part) refl (λ c. high-taken n xs c) where
  step : (b : Bool) → is_last_part x.part ≡ b → ((c : Bool) → taken_from n c (highs xs) ≡ taken_from n c xs)
      → taken_from n t (cond b (x ∷ highs xs) (highs xs)) ≡ taken_from n (taken_by n t x) xs
  step true e k = k (taken_by n t x)
  step false e k = k t ∙ ap (λ c. taken_from n c xs) (sym (ap (λ l. cond (l && blocks_it n x.line) true (cond (l && readies n x.line) false t)) e))

pub taken_not_placed : (p : Image) (n : Who) (xs : List Said) (places : List Placed) → taken n xs ≡ true
    → is_placed n (places_after_all (lines_of p xs) places) ≡ false
taken_not_placed p n xs places e =
    let a = apart xs in
    places-behind p n (in_order xs) true places (λ k. absurd cc)
    (ap (bit_behind n true) a.shape ∙ bit_behind-append n true (in_order (lows xs)) (highs xs)
    ∙ taken-bit n (highs xs) (bit_behind n true (in_order (lows xs))) false a.high (λ k. absurd cc) (high-taken n xs false ∙ e))
