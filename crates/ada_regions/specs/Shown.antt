-- What an item of the list of occurrences says.
use Rattle.std.specs.Prelude.{None, Some}
use Rattle.ada_regions.specs.Occurrences.{Occurrence, a_block, a_component, a_derived_type, a_label, a_literal, a_loop}
use Rattle.ada_regions.specs.Occurrences.{a_loop_parameter, a_parameter, a_profile, a_protected, a_record, a_subprogram}
use Rattle.ada_regions.specs.Occurrences.{a_subtype, a_task, a_unit, an_accept, an_array, an_entry, an_enumeration}
use Rattle.ada_regions.specs.Occurrences.{an_exception, an_object, begins, completes, declares, declares_unit, ends}
use Rattle.ada_regions.specs.Occurrences.{entry_body, further_context, heads, hides, is_called, main_body, mentions}
use Rattle.ada_regions.specs.Occurrences.{mentions_entry, mentions_simply, package_body, package_region}
use Rattle.ada_regions.specs.Occurrences.{private_from_here, protected_body, subprogram_body, task_body, the_context}
use Rattle.ada_regions.specs.Occurrences.{the_context_of, the_main_procedure, the_package, use_package, with_unit}
use Rattle.ada_regions.specs.declared.occurrences.Occurrence.{Occurrence as Told}
use Rattle.ada_regions.specs.declared.occurrences.Occurrence.TheVariants as told

abbrev pub occurrence_shown : Told → Occurrence
occurrence_shown told.BeginContext = begins the_context
occurrence_shown (told.BeginContextOf name) = begins (the_context_of name.now)
occurrence_shown told.BeginFurtherContext = begins further_context
occurrence_shown (told.BeginPackage name) = begins (package_region name.now)
occurrence_shown (told.BeginPackageBody name) = begins (package_body name.now)
occurrence_shown (told.BeginMain name place) = begins (main_body name.now place)
occurrence_shown told.BeginProfile = begins a_profile
occurrence_shown (told.BeginSubprogramBody place is_function) = begins (subprogram_body place is_function)
occurrence_shown (told.BeginUnit name) = begins (a_unit name.now)
occurrence_shown (told.BeginTaskBody name place) = begins (task_body name.now place)
occurrence_shown (told.BeginProtectedBody name) = begins (protected_body name.now)
occurrence_shown (told.BeginEntryBody name place barrier) = begins (entry_body name.now place barrier.now)
occurrence_shown (told.BeginAccept name place) = begins (an_accept name.now place)
occurrence_shown (told.BeginBlock place) = begins (a_block None place)
occurrence_shown (told.BeginNamedBlock name place) = begins (a_block (Some name.now) place)
occurrence_shown told.BeginLoop = begins (a_loop None)
occurrence_shown (told.BeginNamedLoop name) = begins (a_loop (Some name.now))
occurrence_shown (told.BeginRecord name) = begins (a_record name.now)
occurrence_shown told.End = ends
occurrence_shown told.PrivateFromHere = private_from_here
occurrence_shown (told.Hide name) = hides name.now
occurrence_shown (told.Head name) = heads name.now
occurrence_shown (told.Complete name specification) = completes name.now specification.now
occurrence_shown (told.CallRegion name) = is_called name.now
occurrence_shown (told.Mention name) = mentions name.now
occurrence_shown (told.MentionSimply name) = mentions_simply name.now
occurrence_shown (told.MentionEntry name) = mentions_entry name.now
occurrence_shown (told.WithUnit name) = with_unit name.now
occurrence_shown (told.UsePackage name) = use_package name.now
occurrence_shown (told.DeclareObject name object) = declares name.now (an_object object.now)
occurrence_shown (told.DeclareComponent name component) = declares name.now (a_component component.now)
occurrence_shown (told.DeclareParameter name with_cells parameter) =
    declares name.now (a_parameter with_cells parameter.now)
occurrence_shown (told.DeclareLoopParameter name) = declares name.now a_loop_parameter
occurrence_shown (told.DeclareEnumeration name literals) = declares name.now (an_enumeration literals.now)
occurrence_shown (told.DeclareLiteral name) = declares name.now a_literal
occurrence_shown (told.DeclareArray name low high component) =
    declares name.now (an_array low.now high.now component.now)
occurrence_shown (told.DeclareDerivedType name parent) = declares name.now (a_derived_type parent.now)
occurrence_shown (told.DeclareSubtype name subtype) = declares name.now (a_subtype subtype.now)
occurrence_shown (told.DeclareException name) = declares name.now an_exception
occurrence_shown (told.DeclareLabel name) = declares name.now a_label
occurrence_shown (told.DeclareSubprogram name specification) = declares name.now (a_subprogram specification.now)
occurrence_shown (told.DeclareEntry name parameters) = declares name.now (an_entry parameters.now)
occurrence_shown (told.DeclareTask name is_type aspects) = declares name.now (a_task is_type aspects.now)
occurrence_shown (told.DeclareProtected name is_type aspects) = declares name.now (a_protected is_type aspects.now)
occurrence_shown (told.DeclarePackage name) = declares_unit name.now the_package
occurrence_shown (told.DeclareMain name) = declares_unit name.now the_main_procedure
