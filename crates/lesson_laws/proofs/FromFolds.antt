-- Sources of a main procedure with nothing in its pragmas and aspects: what each stage gives of them, from what the
-- fold of that stage gives of the sequence of the procedure's body.
use Rattle.std.proofs.Common.{◌≡◌, ℕ, ◌++◌, List, [], ◌∷◌, Option, Some, None, Bool, true, false, ◌&&◌, Result, Ok, Err, refl, ap, ◌∙◌}
use Rattle.std.specs.List.{flat_map}
use Rattle.ann_base.specs.declared.places.Place.{Place}
use Rattle.ada_tree.specs.declared.names.Identifier.{Identifier}
use Rattle.ada_tree.specs.declared.statements.Sequence.{Sequence}
use Rattle.ada_tree.specs.declared.statements.Sequence.TheOpen.{Sequence-F}
use Rattle.ada_tree.specs.declared.statements.Sequence.TheFolds.{fold-Sequence}
use Rattle.ada_tree.specs.declared.units.ContextClause.{ContextClause}
use Rattle.ada_tree.specs.declared.units.LibraryPackage.{LibraryPackage}
use Rattle.ada_tree.specs.declared.units.Unit.{Unit as Tree}
use Rattle.ada_tree.specs.Written.{lexemes_of}
use Rattle.ada_lex.specs.declared.tokens.Token.{Token}
use Rattle.ada_lex.specs.declared.tokens.LexFault.{LexFault}
use Rattle.ada_lex.specs.Reading.{tokens_of}
use Rattle.ada_grammar.specs.declared.faults.ParseFault.{ParseFault}
use Rattle.ada_grammar.specs.ReadingUnits.{unit_of}
use Rattle.ada_regions.specs.declared.faults.NameFault.{NameFault}
use Rattle.ada_regions.specs.Numbered.{name_fault_of}
use Rattle.ada_verdicts.specs.Accepted.{judged, by_tokens, by_grammar, by_names, by_rules, by_forms}
use Rattle.ada_verdicts.specs.Refusals.{of_names, of_rules}
use Rattle.ada_verdicts.specs.declared.refusals.Refusal.{Refusal}
use Rattle.world_tables.specs.Lists.{first_of}
use Rattle.ada_regions.specs.declared.table.Names.{Names}
use Rattle.ada_regions.specs.NamesInUnits.{names_in_library_package, names_in_context, names_in_unit, names_in_sequence, sequence_layer}
use Rattle.ada_regions.specs.Numbered.{behind_all, nothing_known, names_of}
use Rattle.ada_regions.specs.Occurrences.{Occurrences, SequenceNames, declares_unit, in_body, main_body, the_context}
use Rattle.ada_regions.specs.Occurrences.{the_main_procedure, within_region}
use Rattle.ada_legality.specs.declared.faults.Fault.{Fault}
use Rattle.ada_legality.specs.declared.parts.AspectOwner.TheVariants as owning
use Rattle.ada_legality.specs.declared.standing.Around.TheVariants as around
use Rattle.ada_legality.specs.declared.standing.Known.{Known}
use Rattle.ada_legality.specs.Aspects.{aspects_found}
use Rattle.ada_legality.specs.CallStatements.{all_found}
use Rattle.ada_legality.specs.Declarations.{Sight, findings_layer, sequence_found}
use Rattle.ada_legality.specs.Faults.{faults_in, faults_of, faults_where, found_of, in_order_of_text, walked}
use Rattle.ada_legality.specs.Findings.{Found}
use Rattle.ada_legality.specs.InForce.{deadline_ranges_of, in_force_by}
use Rattle.ada_legality.specs.Packages.{packages_judged}
use Rattle.ada_legality.specs.Pragmas.{pragmas_judged}
use Rattle.ada_legality.specs.SimpleStatements.{with_around}
use Rattle.ada_legality.specs.Units.{context_found, known_of, library_package_found, main_found, main_priority_noted, units_found}
use Rattle.ada_legality.specs.UnitsUsed.{found_from}
use Rattle.ada_legality.specs.WholeSource.{found_beside}
use Rattle.ada_image.specs.declared.making.MadeLists.{MadeLists}
use Rattle.ada_image.specs.declared.making.Within.{Within}
use Rattle.ada_image.specs.BuiltSequences.{sequence_built_layer}
use Rattle.ada_image.specs.BuiltExpressions.{Built}
use Rattle.ada_image.specs.BuiltUnits.{packages_built, unit_built}
use Rattle.ada_image.specs.ImageOfDeclarations.{body_put, making_layer, same_making, sequence_put}
use Rattle.ada_image.specs.ImageOfStatements.{SequenceMaking}
use Rattle.ada_image.specs.ImageOfUnits.{actions_made, all_made, declarations_made, outermost, packages_put}
use Rattle.ada_image.specs.ImageOfUnits.{program_from, program_of, program_with}
use Rattle.ada_image.specs.Making.{Making, ◌>>=◌, ◌>>◌, pure, action_put, first_put, nothing_made}
use Rattle.ada_image.specs.UnitsOfImage.{entries_made, task_units_made}
use Rattle.profile_image.specs.declared.image.Image.{Image}
use Rattle.profile_image.specs.declared.statements.StatementForm.TheVariants as action

abbrev as_accepted : Image → Result Image Refusal
as_accepted image = Ok image

-- ---- the tree that is read from a source, if one is

abbrev pub tree_parsed : Result Tree ParseFault → Option Tree
tree_parsed (Ok tree) = Some tree
tree_parsed (Err fault) = None

abbrev pub tree_read : List ℕ → Result (List Token) LexFault → Option Tree
tree_read source (Ok tokens) = tree_parsed (unit_of (lexemes_of source tokens))
tree_read source (Err fault) = None

judged_parsed : (source : List ℕ) (tokens : List Token) (parsed : Result Tree ParseFault) (tree : Tree)
    → tree_parsed parsed ≡ Some tree → by_grammar source tokens parsed ≡ by_names tree (name_fault_of tree)
judged_parsed source tokens (Ok other) tree e =
    let same : other ≡ tree = cc in
    ap (λ (t : Tree). by_names t (name_fault_of t)) same
judged_parsed source tokens (Err fault) tree e = cc

judged_read : (source : List ℕ) (lexed : Result (List Token) LexFault) (tree : Tree)
    → tree_read source lexed ≡ Some tree → by_tokens source lexed ≡ by_names tree (name_fault_of tree)
judged_read source (Ok tokens) tree e = judged_parsed source tokens (unit_of (lexemes_of source tokens)) tree e
judged_read source (Err fault) tree e = cc

module _ (packages : List LibraryPackage) (context : List ContextClause) (place : Place) (name : Identifier) where
  -- the source whose main procedure has this sequence in its body
  abbrev pub around_sequence : Sequence → Tree
  around_sequence s = record {
    pragmas = [];
    packages = packages;
    context = context;
    main = record { place = place; name = name; aspects = []; body = record { sequence = s; named_at_end = true } };
  }

  -- ---- names

  abbrev pub occurrences_around : SequenceNames → Occurrences
  occurrences_around s =
      flat_map names_in_library_package packages
      ++ within_region the_context (names_in_context context
      ++ (declares_unit name the_main_procedure ∷ within_region (main_body name place) (in_body s)))

  pub names_are : (s : Sequence) → names_in_unit (around_sequence s) ≡ occurrences_around (names_in_sequence s)
  names_are s = refl

  -- ---- rules

  abbrev pub known_outside : Names → Occurrences → Known
  known_outside n o = known_of n o (in_force_by [])

  abbrev pub known_inside : Names → Occurrences → Known
  known_inside n o = with_around around.Main (known_outside n o)

  unfoldable pub walk_around : Names → Occurrences → Found → Found
  walk_around n o sight =
      let aspects = aspects_found owning.OnMain place [] (known_outside n o) in
      all_found library_package_found packages (known_outside n o)
      ++ (context_found context (known_outside n o)
      ++ (aspects.1 ++ (main_priority_noted n.last_priority aspects.0 place ∷ sight)))

  pub walk_is : (s : Sequence) (n : Names) (o : Occurrences)
      → walked (around_sequence s) n o ≡ walk_around n o (sequence_found s (known_inside n o))
  unfolding walked units_found main_found walk_around known_of
  walk_is s n o = refl

  unfoldable pub faults_around : Names → Occurrences → Found → List Fault
  faults_around n o found =
      in_order_of_text (faults_in (found
      ++ (found_beside n (deadline_ranges_of []) found
      ++ (pragmas_judged []
      ++ (packages_judged n packages
      ++ found_from o (nothing_known 30))))))

  pub faults_are : (s : Sequence) (n : Names) (o : Occurrences)
      → in_order_of_text (faults_in (found_of (around_sequence s) n o)) ≡ faults_around n o (walked (around_sequence s) n o)
  unfolding found_of faults_around
  faults_are s n o = refl

  -- ---- the image

  unfoldable pub actions_around : SequenceMaking → Within → Making (Unit {0})
  actions_around making within = do
    call ← action_put action.CallMain 0 None
    body_put same_making within place None false making
    first ← packages_put packages within packages call
    first_put 0 first

  unfoldable pub all_around : SequenceMaking → Within → Making MadeLists
  all_around making within = do
    actions_around making within
    task_units ← task_units_made within 0 within.names.task_units
    entries ← entries_made within [] within.names.entries
    declarations ← declarations_made within [] within.names.declarations
    pure (record { task_units = task_units; entries = entries; declarations = declarations })

  unfoldable pub program_around : Sequence → Names → SequenceMaking → Image
  program_around s n making =
      let made = all_around making (outermost n) nothing_made in
      program_with n (around_sequence s) made.0 made.1

  pub program_is : (s : Sequence) (n : Names) → program_from n (around_sequence s) ≡ program_around s n (sequence_put s)
  unfolding program_from all_made actions_made body_put program_around all_around actions_around
  program_is s n = refl

-- ---- all of it, from what each fold over the sequence gives

module _ (packages : List LibraryPackage) (context : List ContextClause) (place : Place) (name : Identifier)
    (body_by : (A : Type 0) → (Sequence-F A → A) → A) (body : Sequence)
    (folds : (A : Type 0) (step : Sequence-F A → A) → fold-Sequence A step body ≡ body_by A step) where
  abbrev pub whole : Tree
  whole = around_sequence packages context place name body

  unfoldable pub said : Occurrences
  said = occurrences_around packages context place name (body_by SequenceNames sequence_layer)

  pub said_is : names_in_unit whole ≡ said
  unfolding said
  said_is = ap (occurrences_around packages context place name) (folds SequenceNames sequence_layer)

  unfoldable pub names : Names
  names = behind_all said (nothing_known 30)

  pub names_is : names_of whole ≡ names
  unfolding names
  names_is = ap (λ (o : Occurrences). behind_all o (nothing_known 30)) said_is

  unfoldable pub rules_broken : List Fault
  rules_broken =
      faults_around packages context place name names said
      (walk_around packages context place name names said (body_by Sight findings_layer (known_inside packages context place name names said)))

  pub rules_broken_are : faults_of whole ≡ rules_broken
  unfolding faults_of faults_where rules_broken sequence_found
  rules_broken_are =
      rw (
        names_is,
        said_is,
        faults_are packages context place name body names said,
        walk_is packages context place name body names said,
        folds Sight findings_layer,
      ) refl

  unfoldable pub forms_built : Bool
  forms_built = packages_built packages names && body_by Built sequence_built_layer names

  pub forms_built_is : unit_built whole (names_of whole) ≡ forms_built
  unfolding forms_built
  forms_built_is = rw (names_is) (ap (λ (b : Built). packages_built packages names && b names) (folds Built sequence_built_layer))

  unfoldable pub program : Image
  program = program_around packages context place name body names (body_by SequenceMaking making_layer)

  pub program_is_by : program_of whole ≡ program
  unfolding program_of program
  program_is_by =
      rw (names_is, program_is packages context place name body names)
      (ap (program_around packages context place name body names) (folds SequenceMaking making_layer))

  -- ---- what becomes of a source that is read as this tree

  judged_by_names : (source : List ℕ) → tree_read source (tokens_of source) ≡ Some whole
      → judged source ≡ by_names whole names.fault
  unfolding judged
  judged_by_names source read =
      judged_read source (tokens_of source) whole read ∙ ap (λ (n : Names). by_names whole n.fault) names_is

  pub judged_names_refused : (source : List ℕ) (fault : NameFault) → tree_read source (tokens_of source) ≡ Some whole
      → names.fault ≡ Some fault → judged source ≡ Err (of_names fault)
  judged_names_refused source fault read named = judged_by_names source read ∙ ap (by_names whole) named

  judged_by_rules : (source : List ℕ) → tree_read source (tokens_of source) ≡ Some whole → names.fault ≡ None
      → judged source ≡ by_rules whole (first_of rules_broken)
  judged_by_rules source read named =
      judged_by_names source read
      ∙ (ap (by_names whole) named ∙ ap (λ (faults : List Fault). by_rules whole (first_of faults)) rules_broken_are)

  pub judged_rules_refused : (source : List ℕ) (fault : Fault) (others : List Fault)
      → tree_read source (tokens_of source) ≡ Some whole → names.fault ≡ None → rules_broken ≡ fault ∷ others
      → judged source ≡ Err (of_rules fault)
  judged_rules_refused source fault others read named broken =
      judged_by_rules source read named ∙ ap (λ (faults : List Fault). by_rules whole (first_of faults)) broken

  pub judged_is_image : (source : List ℕ) (image : Image) → tree_read source (tokens_of source) ≡ Some whole
      → names.fault ≡ None → rules_broken ≡ [] → forms_built ≡ true → program ≡ image → judged source ≡ Ok image
  judged_is_image source image read named lawful built made =
      judged_by_rules source read named
      ∙ (ap (λ (faults : List Fault). by_rules whole (first_of faults)) lawful
      ∙ (ap (by_forms whole) (forms_built_is ∙ built)
      ∙ ap as_accepted (program_is_by ∙ made)))
