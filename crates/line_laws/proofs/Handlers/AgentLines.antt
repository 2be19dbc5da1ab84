-- What the lines of an effect make of the agent's place: it is placed by its last `ready` line, and taken out by the `block` line
-- that is said behind all of these and stands last.
use Rattle.std.proofs.Common.{◌≡◌, Bool, true, false, cond, ◌||◌, List, [], ◌∷◌, ◌++◌, map, refl, sym, ap, ◌∙◌}
use Rattle.std.proofs.lemmas.Bool.{false≢true}
use Rattle.trace_text.specs.declared.events.Event.{Event}
use Rattle.trace_text.specs.declared.events.Event.TheVariants as line
use Rattle.trace_text.specs.declared.events.Who.TheVariants as who
use Rattle.profile_image.specs.declared.image.Image.{Image}
use Rattle.profile_machine.specs.declared.world.lines.Line.{Line}
use Rattle.profile_machine.specs.declared.world.lines.Line.TheVariants as said
use Rattle.profile_machine.specs.declared.world.lines.Part.{Part}
use Rattle.profile_machine.specs.declared.world.lines.Part.TheVariants.{TheCall, TheFinish, Own, OfOther, ThePlacing, TheBlock}
use Rattle.profile_machine.specs.declared.world.lines.Said.{Said}
use Rattle.profile_machine.specs.Lines.{event_of}
use Rattle.profile_machine.specs.Steps.{is_part_before, put_in_order, in_order}

-- whether the agent is placed behind a line
abbrev pub placed_after : Bool → Event → Bool
placed_after placed (line.Ready who.Agent level end deadline) = true
placed_after placed (line.Block who.Agent why) = false
placed_after placed _ = placed

abbrev pub placed_behind : Bool → List Event → Bool
placed_behind placed [] = placed
placed_behind placed (x ∷ xs) = placed_behind (placed_after placed x) xs

pub placed_behind-append : (placed : Bool) (xs ys : List Event) → placed_behind placed (xs ++ ys) ≡ placed_behind (placed_behind placed xs) ys
placed_behind-append placed [] ys = refl
placed_behind-append placed (x ∷ xs) ys = placed_behind-append (placed_after placed x) xs ys

-- ---- the same of lines with numbers

abbrev pub calls_agent : Line → Bool
calls_agent (said.Ready who.Agent level end deadline) = true
calls_agent _ = false

abbrev pub blocks_agent : Line → Bool
blocks_agent (said.Block who.Agent why) = true
blocks_agent _ = false

abbrev said_after : Bool → Line → Bool
said_after placed (said.Ready who.Agent level end deadline) = true
said_after placed (said.Block who.Agent why) = false
said_after placed _ = placed

abbrev said_behind : Bool → List Said → Bool
said_behind placed [] = placed
said_behind placed (x ∷ xs) = said_behind (said_after placed x.line) xs

event-after : (p : Image) (placed : Bool) (x : Line) → placed_after placed (event_of p x) ≡ said_after placed x
event-after p placed (said.Ready who.Agent level end deadline) = refl
event-after p placed (said.Ready (who.Task t) level end deadline) = refl
event-after p placed (said.Block who.Agent why) = refl
event-after p placed (said.Block (who.Task t) why) = refl
event-after p placed _ = refl

events-behind : (p : Image) (placed : Bool) (xs : List Said) → placed_behind placed (map (λ x. event_of p x.line) xs) ≡ said_behind placed xs
events-behind p placed [] = refl
events-behind p placed (x ∷ xs) =
    ap (λ q. placed_behind q (map (λ y. event_of p y.line) xs)) (event-after p placed x.line) ∙ events-behind p (said_after placed x.line) xs

-- ---- where the agent is not taken out

abbrev pub are_calls : List Said → Bool
are_calls [] = false
are_calls (x ∷ xs) = calls_agent x.line || are_calls xs

abbrev pub NoneBlocks : List Said → Type 0
NoneBlocks [] = Unit {0}
NoneBlocks (x ∷ xs) = (blocks_agent x.line ≡ false) × NoneBlocks xs

pub NoneBlocks-append : (xs ys : List Said) → NoneBlocks xs → NoneBlocks ys → NoneBlocks (xs ++ ys)
NoneBlocks-append [] ys a b = b
NoneBlocks-append (x ∷ xs) ys a b = (a.0, NoneBlocks-append xs ys a.1 b)

or-assoc : (a b c : Bool) → (a || (b || c)) ≡ ((a || b) || c)
or-assoc true b c = refl
or-assoc false b c = refl

pub or-swap : (a b c : Bool) → (a || (b || c)) ≡ (b || (a || c))
or-swap true true c = refl
or-swap true false c = refl
or-swap false b c = refl

pub are_calls-append : (xs ys : List Said) → are_calls (xs ++ ys) ≡ (are_calls xs || are_calls ys)
are_calls-append [] ys = refl
are_calls-append (x ∷ xs) ys = ap (λ q. calls_agent x.line || q) (are_calls-append xs ys) ∙ or-assoc (calls_agent x.line) (are_calls xs) (are_calls ys)

after-called : (placed : Bool) (x : Line) → blocks_agent x ≡ false → said_after placed x ≡ (placed || calls_agent x)
after-called true (said.Ready who.Agent level end deadline) e = refl
after-called false (said.Ready who.Agent level end deadline) e = refl
after-called true (said.Ready (who.Task t) level end deadline) e = refl
after-called false (said.Ready (who.Task t) level end deadline) e = refl
after-called placed (said.Block who.Agent why) e = cc
after-called true (said.Block (who.Task t) why) e = refl
after-called false (said.Block (who.Task t) why) e = refl
after-called true _ e = refl
after-called false _ e = refl

none_blocks-behind : (placed : Bool) (xs : List Said) → NoneBlocks xs → said_behind placed xs ≡ (placed || are_calls xs)
none_blocks-behind true [] a = refl
none_blocks-behind false [] a = refl
none_blocks-behind placed (x ∷ xs) a =
    none_blocks-behind (said_after placed x.line) xs a.1 ∙ ap (λ q. q || are_calls xs) (after-called placed x.line a.0)
    ∙ sym (or-assoc placed (calls_agent x.line) (are_calls xs))

put-test-calls : (x y : Said) (ys placed : List Said) (test : Bool) → are_calls placed ≡ (calls_agent x.line || are_calls ys)
    → are_calls (cond test (y ∷ placed) (x ∷ y ∷ ys)) ≡ (calls_agent x.line || are_calls (y ∷ ys))
put-test-calls x y ys placed true e = ap (λ q. calls_agent y.line || q) e ∙ or-swap (calls_agent y.line) (calls_agent x.line) (are_calls ys)
put-test-calls x y ys placed false e = refl

put-calls : (x : Said) (ys : List Said) → are_calls (put_in_order x ys) ≡ (calls_agent x.line || are_calls ys)
put-calls x [] = refl
put-calls x (y ∷ ys) = put-test-calls x y ys (put_in_order x ys) (is_part_before y.part x.part) (put-calls x ys)

in_order-calls : (xs : List Said) → are_calls (in_order xs) ≡ are_calls xs
in_order-calls [] = refl
in_order-calls (x ∷ xs) = put-calls x (in_order xs) ∙ ap (λ q. calls_agent x.line || q) (in_order-calls xs)

put-test-none : (x y : Said) (ys placed : List Said) (test : Bool) → blocks_agent x.line ≡ false → NoneBlocks (y ∷ ys) → NoneBlocks placed
    → NoneBlocks (cond test (y ∷ placed) (x ∷ y ∷ ys))
put-test-none x y ys placed true e a b = (a.0, b)
put-test-none x y ys placed false e a b = (e, a)

put-none : (x : Said) (ys : List Said) → blocks_agent x.line ≡ false → NoneBlocks ys → NoneBlocks (put_in_order x ys)
put-none x [] e a = (e, tt)
put-none x (y ∷ ys) e a = put-test-none x y ys (put_in_order x ys) (is_part_before y.part x.part) e a (put-none x ys e a.1)

in_order-none : (xs : List Said) → NoneBlocks xs → NoneBlocks (in_order xs)
in_order-none [] a = tt
in_order-none (x ∷ xs) a = put-none x (in_order xs) a.0 (in_order-none xs a.1)

-- it is placed where it was, or where it is called
pub lines-call : (p : Image) (placed : Bool) (xs : List Said) → NoneBlocks xs
    → placed_behind placed (map (λ x. event_of p x.line) (in_order xs)) ≡ (placed || are_calls xs)
lines-call p placed xs a =
    events-behind p placed (in_order xs) ∙ none_blocks-behind placed (in_order xs) (in_order-none xs a) ∙ ap (λ q. placed || q) (in_order-calls xs)

-- ---- where it is taken out, and called no more

abbrev pub NoneCalls : List Said → Type 0
NoneCalls [] = Unit {0}
NoneCalls (x ∷ xs) = (calls_agent x.line ≡ false) × NoneCalls xs

pub NoneCalls-append : (xs ys : List Said) → NoneCalls xs → NoneCalls ys → NoneCalls (xs ++ ys)
NoneCalls-append [] ys a b = b
NoneCalls-append (x ∷ xs) ys a b = (a.0, NoneCalls-append xs ys a.1 b)

-- somewhere stands its `block` line, with the part of such lines, and no `ready` line of it behind
pub data Closes : List Said → Type 0 where
  closes : (x : Said) (xs : List Said) → x.part ≡ TheBlock → blocks_agent x.line ≡ true → NoneCalls xs → Closes (x ∷ xs)
  closes_behind : (x : Said) (xs : List Said) → Closes xs → Closes (x ∷ xs)

pub Closes-behind : (xs ys : List Said) → Closes ys → Closes (xs ++ ys)
Closes-behind [] ys c = c
Closes-behind (x ∷ xs) ys c = closes_behind x (xs ++ ys) (Closes-behind xs ys c)

pub Closes-before : (xs ys : List Said) → Closes xs → NoneCalls ys → Closes (xs ++ ys)
Closes-before _ ys (closes x xs part blocks none) a = closes x (xs ++ ys) part blocks (NoneCalls-append xs ys none a)
Closes-before _ ys (closes_behind x xs c) a = closes_behind x (xs ++ ys) (Closes-before xs ys c a)

put-test-uncalled : (x y : Said) (ys placed : List Said) (test : Bool) → calls_agent x.line ≡ false → NoneCalls (y ∷ ys) → NoneCalls placed
    → NoneCalls (cond test (y ∷ placed) (x ∷ y ∷ ys))
put-test-uncalled x y ys placed true e a b = (a.0, b)
put-test-uncalled x y ys placed false e a b = (e, a)

put-uncalled : (x : Said) (ys : List Said) → calls_agent x.line ≡ false → NoneCalls ys → NoneCalls (put_in_order x ys)
put-uncalled x [] e a = (e, tt)
put-uncalled x (y ∷ ys) e a = put-test-uncalled x y ys (put_in_order x ys) (is_part_before y.part x.part) e a (put-uncalled x ys e a.1)

in_order-uncalled : (xs : List Said) → NoneCalls xs → NoneCalls (in_order xs)
in_order-uncalled [] a = tt
in_order-uncalled (x ∷ xs) a = put-uncalled x (in_order xs) a.0 (in_order-uncalled xs a.1)

-- no line stands behind one that blocks, but of that part
pub block_last : (part : Part) → is_part_before TheBlock part ≡ false
block_last TheCall = refl
block_last TheFinish = refl
block_last Own = refl
block_last (OfOther name) = refl
block_last ThePlacing = refl
block_last TheBlock = refl

put-test-closing : (x y : Said) (ys placed : List Said) (test : Bool) → x.part ≡ TheBlock → blocks_agent x.line ≡ true → NoneCalls (y ∷ ys) → Closes placed
    → Closes (cond test (y ∷ placed) (x ∷ y ∷ ys))
put-test-closing x y ys placed true part blocks none c = closes_behind y placed c
put-test-closing x y ys placed false part blocks none c = closes x (y ∷ ys) part blocks none

put-closing : (x : Said) (ys : List Said) → x.part ≡ TheBlock → blocks_agent x.line ≡ true → NoneCalls ys → Closes (put_in_order x ys)
put-closing x [] part blocks none = closes x [] part blocks none
put-closing x (y ∷ ys) part blocks none =
    put-test-closing x y ys (put_in_order x ys) (is_part_before y.part x.part) part blocks none (put-closing x ys part blocks none.1)

put-test-closed : (x y : Said) (ys placed : List Said) (test : Bool) → is_part_before y.part x.part ≡ test → Closes (y ∷ ys) → (Closes ys → Closes placed)
    → Closes (cond test (y ∷ placed) (x ∷ y ∷ ys))
put-test-closed x y ys placed false is c onward = closes_behind x (y ∷ ys) c
put-test-closed x _ _ placed true is (closes y ys part blocks none) onward =
    absurd (false≢true (sym (block_last x.part) ∙ sym (ap (λ q. is_part_before q x.part) part) ∙ is))
put-test-closed x _ _ placed true is (closes_behind y ys c) onward = closes_behind y placed (onward c)

put-closed : (x : Said) (ys : List Said) → Closes ys → Closes (put_in_order x ys)
put-closed x [] c = elim c [ ]
put-closed x (y ∷ ys) c = put-test-closed x y ys (put_in_order x ys) (is_part_before y.part x.part) refl c (put-closed x ys)

in_order-closes : (xs : List Said) → Closes xs → Closes (in_order xs)
in_order-closes _ (closes x xs part blocks none) = put-closing x (in_order xs) part blocks (in_order-uncalled xs none)
in_order-closes _ (closes_behind x xs c) = put-closed x (in_order xs) (in_order-closes xs c)

after-blocked : (placed : Bool) (x : Line) → blocks_agent x ≡ true → said_after placed x ≡ false
after-blocked placed (said.Block who.Agent why) e = refl
after-blocked placed (said.Block (who.Task t) why) e = cc
after-blocked placed _ e = cc

after-uncalled : (x : Line) → calls_agent x ≡ false → said_after false x ≡ false
after-uncalled (said.Ready who.Agent level end deadline) e = cc
after-uncalled (said.Ready (who.Task t) level end deadline) e = refl
after-uncalled (said.Block who.Agent why) e = refl
after-uncalled (said.Block (who.Task t) why) e = refl
after-uncalled _ e = refl

uncalled-behind : (xs : List Said) → NoneCalls xs → said_behind false xs ≡ false
uncalled-behind [] a = refl
uncalled-behind (x ∷ xs) a = ap (λ q. said_behind q xs) (after-uncalled x.line a.0) ∙ uncalled-behind xs a.1

closed-behind : (placed : Bool) (xs : List Said) → Closes xs → said_behind placed xs ≡ false
closed-behind placed _ (closes x xs part blocks none) = ap (λ q. said_behind q xs) (after-blocked placed x.line blocks) ∙ uncalled-behind xs none
closed-behind placed _ (closes_behind x xs c) = closed-behind (said_after placed x.line) xs c

-- it is taken out
pub lines-close : (p : Image) (placed : Bool) (xs : List Said) → Closes xs → placed_behind placed (map (λ x. event_of p x.line) (in_order xs)) ≡ false
lines-close p placed xs c = events-behind p placed (in_order xs) ∙ closed-behind placed (in_order xs) (in_order-closes xs c)
