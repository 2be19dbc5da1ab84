-- The initial values are found first, and then written.
use Rattle.std.proofs.Common.{◌≡◌, ℕ, List, [], ◌∷◌, ◌++◌, Ok, Err, refl, sym, ap, ◌∙◌}
use Rattle.ann_base.specs.Results.{◌>>=◌}
use Rattle.profile_image.specs.declared.image.Image.{Image}
use Rattle.profile_image.specs.declared.numbers.DeclNo.{DeclNo}
use Rattle.profile_image.specs.declared.values.Value.{Value}
use Rattle.profile_image.specs.declared.declarations.Initial.{Initial}
use Rattle.profile_image.specs.declared.declarations.Initial.TheVariants as initial
use Rattle.profile_machine.specs.declared.world.World.{World}
use Rattle.profile_machine.specs.declared.world.scopes.Located.{Located}
use Rattle.profile_machine.specs.declared.world.scopes.Variable.{Variable}
use Rattle.profile_image.specs.Program.{declaration_of}
use Rattle.profile_machine.specs.Operators.{Valued, checked}
use Rattle.profile_machine.specs.Values.{Seen, value, object_cell, component_at}
use Rattle.profile_machine.specs.CallEnds.{store}
use Rattle.profile_machine.specs.Statements.{copy_cells}
use Rattle.profile_machine.specs.Declarations.{initialized, initial_of, components_initialized}
use Rattle.machine_declarations.specs.declared.initial_values.FirstValue.{FirstValue}
use Rattle.machine_declarations.specs.declared.initial_values.FirstValue.TheVariants as first
use Rattle.machine_declarations.specs.declared.initial_values.Begun.{Begun}
use Rattle.machine_declarations.specs.FirstValues.{first_value, written, first_values, all_written, value_set, components_set}

-- what follows what follows
onward : {X Y Z : Type 0} (r : Valued X) (f : X → Valued Y) (g : Y → Valued Z) → (r >>= f) >>= g ≡ r >>= (λ x. f x >>= g)
onward (Ok x) f g = refl
onward (Err e) f g = refl

scalar_by : (p : Image) (v : Variable) (w : World) (r : Valued Value)
    → (r >>= λ x. store p v x w) ≡ ((r >>= λ x. checked (declaration_of p v.declared).constraint x >>= λ y. Ok (first.Scalar y)) >>= λ f. Ok (written p v f w))
scalar_by p v w (Err e) = refl
scalar_by p v w (Ok x) = sym (onward (checked (declaration_of p v.declared).constraint x) (λ y. Ok (first.Scalar y)) (λ f. Ok (written p v f w)))

copied_by : (p : Image) (v : Variable) (w : World) (r : Valued Variable)
    → (r >>= λ f. Ok (copy_cells p v f w)) ≡ ((r >>= λ f. Ok (first.Copied f)) >>= λ f. Ok (written p v f w))
copied_by p v w (Err e) = refl
copied_by p v w (Ok f) = refl

pub initialized_by : (q : Seen) (v : Variable) (i : Initial) (w : World) → initialized q v i w ≡ value_set q v i w
initialized_by q v initial.Default w = refl
initialized_by q v (initial.Scalar e) w = scalar_by q.program v w (value q e)
initialized_by q v (initial.Array source) w = copied_by q.program v w (object_cell q source)

written_behind : (p : Image) (bs : List Begun) (b : Begun) (w : World) → all_written p (bs ++ b ∷ []) w ≡ written p b.variable b.value (all_written p bs w)
written_behind p [] b w = refl
written_behind p (x ∷ bs) b w = written_behind p bs b (written p x.variable x.value w)

-- the others, where the first value is found or is not
others_by : (q : Seen) (own : ℕ) (l : Located) (cs : List DeclNo) (bs : List Begun) (w : World) (v : Variable) (r : Valued FirstValue)
    → ((ds : List Begun)
    → components_initialized q own l cs (all_written q.program ds w) ≡ (first_values q own l cs ds >>= λ all. Ok (all_written q.program all w)))
    → ((r >>= λ f. Ok (written q.program v f (all_written q.program bs w))) >>= components_initialized q own l cs)
    ≡ (((r >>= λ f. Ok (record { variable = v; value = f })) >>= λ b. first_values q own l cs (bs ++ b ∷ [])) >>= λ all. Ok (all_written q.program all w))
others_by q own l cs bs w v (Err e) again = refl
others_by q own l cs bs w v (Ok f) again =
    let b : Begun = record { variable = v; value = f } in
    ap (components_initialized q own l cs) (sym (written_behind q.program bs b w)) ∙ again (bs ++ b ∷ [])

components_behind : (q : Seen) (own : ℕ) (l : Located) (cs : List DeclNo) (bs : List Begun) (w : World)
    → components_initialized q own l cs (all_written q.program bs w) ≡ (first_values q own l cs bs >>= λ all. Ok (all_written q.program all w))
components_behind q own l [] bs w = refl
components_behind q own l (c ∷ cs) bs w =
    let v = component_at q.program own l c in
    let i = initial_of (declaration_of q.program c).kind in
    ap (λ r. r >>= components_initialized q own l cs) (initialized_by q v i (all_written q.program bs w))
    ∙ others_by q own l cs bs w v (first_value q v i) (λ ds. components_behind q own l cs ds w)

pub components_by : (q : Seen) (own : ℕ) (l : Located) (cs : List DeclNo) (w : World) → components_initialized q own l cs w ≡ components_set q own l cs w
components_by q own l cs w = components_behind q own l cs [] w
