-- What the cells of objects get that are declared, found before any of them is written.
use Rattle.std.specs.Prelude.{ℕ, List, [], ◌∷◌, ◌++◌, Ok}
use Rattle.ann_base.specs.Results.{◌>>=◌}
use Rattle.profile_image.specs.declared.image.Image.{Image}
use Rattle.profile_image.specs.declared.numbers.DeclNo.{DeclNo}
use Rattle.profile_image.specs.declared.declarations.Initial.{Initial}
use Rattle.profile_image.specs.declared.declarations.Initial.TheVariants as initial
use Rattle.profile_machine.specs.declared.world.World.{World}
use Rattle.profile_machine.specs.declared.world.scopes.Located.{Located}
use Rattle.profile_machine.specs.declared.world.scopes.Variable.{Variable}
use Rattle.profile_image.specs.Program.{declaration_of}
use Rattle.profile_machine.specs.Operators.{Valued, checked}
use Rattle.profile_machine.specs.Scopes.{write_cell}
use Rattle.profile_machine.specs.Values.{Seen, value, object_cell, component_at}
use Rattle.profile_machine.specs.Statements.{copy_cells}
use Rattle.profile_machine.specs.Declarations.{set_defaults, initial_of}
use Rattle.machine_declarations.specs.declared.initial_values.FirstValue.{FirstValue}
use Rattle.machine_declarations.specs.declared.initial_values.FirstValue.TheVariants as first
use Rattle.machine_declarations.specs.declared.initial_values.Begun.{Begun}

-- what an object's cells get by its declaration
abbrev pub first_value : Seen → Variable → Initial → Valued FirstValue
first_value q v initial.Default = Ok first.Default
first_value q v (initial.Scalar e) = value q e >>= λ x. checked (declaration_of q.program v.declared).constraint x
    >>= λ y. Ok (first.Scalar y)
first_value q v (initial.Array source) = object_cell q source >>= λ f. Ok (first.Copied f)

-- they get it
abbrev pub written : Image → Variable → FirstValue → World → World
written p v first.Default w = set_defaults p v w
written p v (first.Scalar x) w = write_cell v.within v.place x w
written p v (first.Copied f) w = copy_cells p v f w

-- the same of a component of an object
abbrev pub first_of_component : Seen → ℕ → Located → DeclNo → Valued Begun
first_of_component q own_cells l c =
    first_value q (component_at q.program own_cells l c) (initial_of (declaration_of q.program c).kind) >>= λ f.
    Ok (record { variable = component_at q.program own_cells l c; value = f })

-- of each component, in order, behind those that are found by now
abbrev pub first_values : Seen → ℕ → Located → List DeclNo → List Begun → Valued (List Begun)
first_values q own_cells l [] found = Ok found
first_values q own_cells l (c ∷ cs) found = first_of_component q own_cells l c
    >>= λ b. first_values q own_cells l cs (found ++ b ∷ [])

abbrev pub all_written : Image → List Begun → World → World
all_written p [] w = w
all_written p (b ∷ bs) w = all_written p bs (written p b.variable b.value w)

-- the world behind the initial value of an object or component: the value is found, and then written
abbrev pub value_set : Seen → Variable → Initial → World → Valued World
value_set q v i w = first_value q v i >>= λ f. Ok (written q.program v f w)

-- the world behind the initial values of components: all are found, and then written
abbrev pub components_set : Seen → ℕ → Located → List DeclNo → World → Valued World
components_set q own_cells l cs w = first_values q own_cells l cs [] >>= λ all. Ok (all_written q.program all w)
