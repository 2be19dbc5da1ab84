-- What lines tell of releases: which handlers, in order.
use Rattle.std.proofs.Common.{◌≡◌, false, List, [], ◌∷◌, ◌++◌, map, Option, Some, None, refl, sym, ap, subst, ◌∙◌, append_assoc, append-nil}
use Rattle.std.proofs.lemmas.Bool.{false≢true}
use Rattle.trace_text.specs.declared.events.Event.{Event}
use Rattle.profile_image.specs.declared.image.Image.{Image}
use Rattle.profile_machine.specs.declared.world.appointments.HandlerOf.{HandlerOf}
use Rattle.profile_machine.specs.declared.world.lines.Line.{Line}
use Rattle.profile_machine.specs.declared.world.lines.Line.TheVariants as line
use Rattle.profile_machine.specs.declared.world.lines.Part.{Part}
use Rattle.profile_machine.specs.declared.world.lines.Said.{Said}
use Rattle.profile_machine.specs.Lines.{event_of}
use Rattle.profile_machine.specs.Steps.{in_order}
use Rattle.profile_machine.specs.Releases.{NamedHandler, named_handler, released}
use Rattle.machine_laws.proofs.Moves.{is_told_apart, AreOthers, lines_of}
use Rattle.line_laws.proofs.Exclusion.OwnLines.{told, Told, Told-append, Told-in_order}

abbrev telling : Line → Option HandlerOf
telling (line.Release number handler) = Some handler
telling _ = None

-- the next of those that are still to be told
abbrev IsNext : List HandlerOf → HandlerOf → Type 0
IsNext [] h = ⊥
IsNext (x ∷ xs) h = x ≡ h

abbrev behind : List HandlerOf → HandlerOf → List HandlerOf
behind [] h = []
behind (x ∷ xs) h = xs

-- the lines tell of releases of these handlers
abbrev pub Tells : List HandlerOf → List Said → Type 0
Tells hs xs = (more : List HandlerOf) → Told telling IsNext behind xs (hs ++ more) more

pub tells_none : Tells [] []
tells_none more = refl

pub tells_both : (hs ks : List HandlerOf) (xs ys : List Said) → Tells hs xs → Tells ks ys → Tells (hs ++ ks) (xs ++ ys)
tells_both hs ks xs ys p q more =
    subst (λ s. Told telling IsNext behind (xs ++ ys) s more) (sym (append_assoc hs ks more))
    (Told-append telling IsNext behind xs ys (hs ++ (ks ++ more)) (ks ++ more) more (p (ks ++ more)) (q more))

other_line : (part : Part) (x : Line) (s t : List HandlerOf) → is_told_apart x ≡ false → s ≡ t → told telling IsNext behind part (telling x) s (λ q. q ≡ t)
other_line part (line.Release number handler) s t e h = absurd (false≢true (sym e))
other_line part _ s t e h = h

pub tells_other : (part : Part) (x : Line) → is_told_apart x ≡ false → Tells [] (record { part = part; line = x } ∷ [])
tells_other part x e more = other_line part x more more e refl

others-on : (xs : List Said) (s : List HandlerOf) → AreOthers xs → Told telling IsNext behind xs s s
others-on [] s a = refl
others-on (x ∷ xs) s a = other_on x.part x.line s (λ q. Told telling IsNext behind xs q s) a.0 (others-on xs s a.1)
  where
    other_on : (part : Part) (x : Line) (s : List HandlerOf) (f : List HandlerOf → Type 0) → is_told_apart x ≡ false → f s
        → told telling IsNext behind part (telling x) s f
    other_on part (line.Release number handler) s f e h = absurd (false≢true (sym e))
    other_on part _ s f e h = h

pub tells_others : (xs : List Said) → AreOthers xs → Tells [] xs
tells_others xs a more = others-on xs more a

-- ---- when an effect is over, its lines name these handlers

named_first : (p : Image) (hs : List HandlerOf) (h : HandlerOf) (rest : List NamedHandler) → IsNext hs h → rest ≡ map (named_handler p) (behind hs h)
    → (named_handler p h ∷ rest) ≡ map (named_handler p) hs
named_first p [] h rest e r = absurd e
named_first p (x ∷ xs) h rest e r = ap (λ y. named_handler p y ∷ rest) (sym e) ∙ ap (λ ys. named_handler p x ∷ ys) r

line-released : (p : Image) (part : Part) (x : Line) (rest : List Event) (hs : List HandlerOf) (f : List HandlerOf → Type 0)
    → told telling IsNext behind part (telling x) hs f → ((ks : List HandlerOf) → f ks → released rest ≡ map (named_handler p) ks)
    → released (event_of p x ∷ rest) ≡ map (named_handler p) hs
line-released p part (line.Release number handler) rest hs f h k = named_first p hs handler (released rest) h.1 (k (behind hs handler) h.2)
line-released p part _ rest hs f h k = k hs h

told-released : (p : Image) (xs : List Said) (hs : List HandlerOf) → Told telling IsNext behind xs hs []
    → released (map (λ x. event_of p x.line) xs) ≡ map (named_handler p) hs
told-released p [] hs h = sym (ap (map (named_handler p)) h)
told-released p (x ∷ xs) hs h =
    line-released p x.part x.line (map (λ y. event_of p y.line) xs) hs (λ q. Told telling IsNext behind xs q []) h (λ ks k. told-released p xs ks k)

pub released-lines : (p : Image) (hs : List HandlerOf) (xs : List Said) → Tells hs xs → released (lines_of p xs) ≡ map (named_handler p) hs
released-lines p hs xs t =
    told-released p (in_order xs) hs (Told-in_order telling IsNext behind xs hs [] (subst (λ s. Told telling IsNext behind xs s []) (append-nil hs) (t [])))
