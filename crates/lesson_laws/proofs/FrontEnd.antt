-- The words of the front end: on an `unfolding` line one of these lets a proof compute a stage of it.
use Rattle.std.specs.Prelude.{⊤}
use Rattle.ada_lex.specs.Lexed.{gap_state, is_run}
use Rattle.ada_lex.specs.Meaning.{undoubled}
use Rattle.ada_lex.specs.Reading.{behind_all, word_at, number_at, text_at, piece_at, tokens_from, tokens_of}
use Rattle.ada_lex.specs.Reserved.{is_reserved}
use Rattle.ada_lex.specs.Shapes.{run_length, value_behind, text_length}
use Rattle.ada_tree.specs.Shape.{is_shaped}
use Rattle.ada_grammar.specs.Reading.{starts, starts_both, token, the_word, the_delimiter, an_identifier, a_number}
use Rattle.ada_grammar.specs.Reading.{a_text, flag_of, end_name_of, opening_of, opening_is_of, items_from, items_of}
use Rattle.ada_grammar.specs.Reading.{behind_delimiter_of, separated_of, identifiers_of, name_of, names_of}
use Rattle.ada_grammar.specs.ReadingBodies.{body_of, subprogram_operation_of, entry_operation_of, operation_body_of}
use Rattle.ada_grammar.specs.ReadingBodies.{subprogram_body_of, subprogram_of, task_body_of, any_task_of}
use Rattle.ada_grammar.specs.ReadingBodies.{protected_body_of, any_protected_of, declaration_of, begins_declaration}
use Rattle.ada_grammar.specs.ReadingDeclarations.{initial_of, object_of, exception_of, named_declaration_of}
use Rattle.ada_grammar.specs.ReadingDeclarations.{component_of, enumeration_of, array_of, null_record_of}
use Rattle.ada_grammar.specs.ReadingDeclarations.{components_record_of, extension_of, derived_of, definition_of}
use Rattle.ada_grammar.specs.ReadingDeclarations.{type_of, subtype_of, use_of, aspect_value_of, aspect_of}
use Rattle.ada_grammar.specs.ReadingDeclarations.{given_aspects_of, aspects_of, overriding_of, procedure_of}
use Rattle.ada_grammar.specs.ReadingDeclarations.{function_of, specification_of, entry_of, task_definition_of, task_of}
use Rattle.ada_grammar.specs.ReadingDeclarations.{specified_operation_of, operation_of, private_of, protected_of}
use Rattle.ada_grammar.specs.ReadingDeclarations.{entry_head_of}
use Rattle.ada_grammar.specs.ReadingExpressions.{relational_of, adding_of, comparison_of, addition_of}
use Rattle.ada_grammar.specs.ReadingExpressions.{multiplying_delimiter_of, multiplying_word_of, multiplication_of}
use Rattle.ada_grammar.specs.ReadingExpressions.{conjunction_of, disjunction_of, exclusive_of, logical_operator_of}
use Rattle.ada_grammar.specs.ReadingExpressions.{both_words_of, this_attribute_of, attribute_word_of, designator_of}
use Rattle.ada_grammar.specs.ReadingExpressions.{named_argument_of, argument_of, given_arguments_of, arguments_of}
use Rattle.ada_grammar.specs.ReadingExpressions.{named_of, bracketed_of, primary_of, highest_of, factor_of}
use Rattle.ada_grammar.specs.ReadingExpressions.{multiplied_of, product_of, term_of, signed_of, first_term_of}
use Rattle.ada_grammar.specs.ReadingExpressions.{addend_of, addition_behind_of, sum_of, compared_of, relation_of}
use Rattle.ada_grammar.specs.ReadingExpressions.{operand_of, joined_of, logical_of, expression_of, inner_of}
use Rattle.ada_grammar.specs.ReadingSequences.{statement_of, statements_of, handler_of, given_handlers_of, handlers_of}
use Rattle.ada_grammar.specs.ReadingSequences.{declarations_of, plain_of, handled_behind_of, whole_body_of, sequence_of}
use Rattle.ada_grammar.specs.ReadingSequences.{further_in}
use Rattle.ada_grammar.specs.ReadingSimple.{access_of, bounds_of, range_of, constraint_of, subtype_indication_of}
use Rattle.ada_grammar.specs.ReadingSimple.{parameter_of, given_parameters_of, parameters_of, assignment_behind_of}
use Rattle.ada_grammar.specs.ReadingSimple.{call_behind_of, simple_of, call_of, delay_of, value_choice_of, choice_of}
use Rattle.ada_grammar.specs.ReadingSimple.{while_of, for_of, iteration_of, loop_name_of, when_of, exit_of, null_of}
use Rattle.ada_grammar.specs.ReadingSimple.{result_value_of, return_of, exception_name_of, raise_of, abort_of}
use Rattle.ada_grammar.specs.ReadingSimple.{with_abort_of, requeue_of, exceptions_of}
use Rattle.ada_grammar.specs.ReadingStatements.{begins_statement, call_opened_of, delay_opened_of, elsif_of, else_of}
use Rattle.ada_grammar.specs.ReadingStatements.{if_of, case_alternative_of, case_alternatives_of, case_of, loop_of}
use Rattle.ada_grammar.specs.ReadingStatements.{block_end_of, declare_of, begin_of, block_of, labelled_of}
use Rattle.ada_grammar.specs.ReadingStatements.{accept_body_of, accept_of, optional_statements_of}
use Rattle.ada_grammar.specs.ReadingStatements.{accept_alternative_of, delay_alternative_of, terminate_of}
use Rattle.ada_grammar.specs.ReadingStatements.{alternative_of, guard_of, select_alternative_of, next_alternative_of}
use Rattle.ada_grammar.specs.ReadingStatements.{selective_of, asynchronous_of, timed_of, conditional_of, behind_call_of}
use Rattle.ada_grammar.specs.ReadingStatements.{call_select_of, delay_select_of, select_form_of, select_of, compound_of}
use Rattle.ada_grammar.specs.ReadingStatements.{named_statement_of, simple_statement_of, statement_inside_of}
use Rattle.ada_grammar.specs.ReadingUnits.{pragma_of, with_of, use_clause_of, clause_of, context_of, private_part_of}
use Rattle.ada_grammar.specs.ReadingUnits.{package_declaration_of, package_statements_of, package_body_of, package_of}
use Rattle.ada_grammar.specs.ReadingUnits.{packages_from, packages_of, main_of, source_of, unit_of}
use Rattle.ada_regions.specs.Completions.{completed_in, headed, owned, numbered_if, body_of_declared}
use Rattle.ada_regions.specs.Completions.{completed_or_declared, completed, is_unit, seen_again, body_apart}
use Rattle.ada_regions.specs.Completions.{task_scoped, body_of_unit, first_body, later_body, body_here, body_elsewhere}
use Rattle.ada_regions.specs.Completions.{body_sought, body_begun, entry_mentioned}
use Rattle.ada_regions.specs.Declaring.{hidden, entered, entered_here, unit_is_taken, entered_as_unit, numbered}
use Rattle.ada_regions.specs.Declaring.{constant_value, task_indicated, object_declared, component_declared}
use Rattle.ada_regions.specs.Declaring.{parameter_declared, loop_parameter_declared, exception_declared}
use Rattle.ada_regions.specs.Declaring.{enumeration_declared, position_of_literal, literal_declared, array_declared}
use Rattle.ada_regions.specs.Declaring.{numbered_controlled, derived_declared, subtype_declared, owner_type}
use Rattle.ada_regions.specs.Declaring.{subprogram_declared, entry_declared, unit_entered, task_declared}
use Rattle.ada_regions.specs.Declaring.{protected_declared, declared}
use Rattle.ada_regions.specs.Names.{expanded}
use Rattle.ada_regions.specs.Numbered.{behind}
use Rattle.ada_regions.specs.PredefinedUnits.{same_unit, child_unit, root_unit, parent_unit, declared_in_standard}
use Rattle.ada_regions.specs.PredefinedUnits.{declared_in_system, declared_in_text_io, declared_in_real_time}
use Rattle.ada_regions.specs.PredefinedUnits.{declared_in_timing_events, declared_in_execution_time, declared_in_timers}
use Rattle.ada_regions.specs.PredefinedUnits.{declared_in_group_budgets, declared_in_dynamic_priorities}
use Rattle.ada_regions.specs.PredefinedUnits.{declared_in_task_identification, declared_in_dispatching}
use Rattle.ada_regions.specs.PredefinedUnits.{declared_in_round_robin, declared_in_edf, declared_in_finalization}
use Rattle.ada_regions.specs.PredefinedUnits.{declared_in_script_ports, item_in}
use Rattle.ada_regions.specs.Regions.{scope_begun, package_named, context_of_package, context_again, package_begun}
use Rattle.ada_regions.specs.Regions.{package_body_begun, unit_begun, record_begun, entry_owner, entry_body_numbered}
use Rattle.ada_regions.specs.Regions.{entry_body_begun, begun, unit_named, library_unit, withed, used}
use Rattle.ada_regions.specs.SelectedNames.{region_of_type, region_selected, exported_by, declared_inside, selected}
use Rattle.ada_regions.specs.SelectedNames.{name_resolved}
use Rattle.ada_regions.specs.Statics.{micros_of, literal_value, static_literal, static_negative, range_of_type}
use Rattle.ada_regions.specs.Statics.{value_denoted, subtype_denoted, attribute_value, static_name, static_value}
use Rattle.ada_regions.specs.Subtypes.{range_between, mark_denoted, constrained, indicated_subtype, array_type}
use Rattle.ada_regions.specs.Subtypes.{formals_of}
use Rattle.ada_regions.specs.Visibility.{item_of, in_standard, directly, stands_under, exported_from, visible_in}
use Rattle.ada_regions.specs.Visibility.{same_denoted, sought, resolved}
use Rattle.ada_image.specs.CallStatements.{entity_call_put, item_call_put, denoted_call_put, signs_in_actuals}
use Rattle.ada_image.specs.CallStatements.{call_statement_put}
use Rattle.ada_image.specs.ImageOfCalls.{target_made, variable_in_form, variable_in, in_made, out_made, in_out_made}
use Rattle.ada_image.specs.ImageOfCalls.{mode_made, thing_actual, actual_made, actuals_made, arguments_made, callee_of}
use Rattle.ada_image.specs.ImageOfCalls.{owner_of_entry, call_put, entry_call_put, call_of_kind, call_of_name}
use Rattle.ada_image.specs.ImageOfCalls.{function_call, function_call_put, piece_of_type, image_piece, value_or_none}
use Rattle.ada_image.specs.ImageOfCalls.{image_made, piece_in_form, piece_made, joined_made, all_joined, pieces_in_form}
use Rattle.ada_image.specs.ImageOfCalls.{pieces_made, put_line_put}
use Rattle.ada_image.specs.ImageOfDeclarations.{kind_declared, number_declared, subtype_declared_as}
use Rattle.ada_image.specs.ImageOfDeclarations.{signs_of_components, signs_of_type, signs_of_object, initialize_if}
use Rattle.ada_image.specs.ImageOfDeclarations.{function_call_if, object_declaration_put, object_elaborated, object_put}
use Rattle.ada_image.specs.ImageOfDeclarations.{objects_put, single_put, object_makes_task, declaration_put}
use Rattle.ada_image.specs.ImageOfDeclarations.{declarations_put, makes_task, make_tasks, activation_put}
use Rattle.ada_image.specs.ImageOfDeclarations.{end_of_activation_put, subprogram_declared_as, body_put}
use Rattle.ada_image.specs.ImageOfDeclarations.{operation_body_put, operation_bodies_put, inner_body_put}
use Rattle.ada_image.specs.ImageOfDeclarations.{inner_bodies_put, unhandled_put, with_handlers_put, handled_put}
use Rattle.ada_image.specs.ImageOfDeclarations.{whole_put, parts_put}
use Rattle.ada_image.specs.ImageOfExpressions.{prefix_part, object_outside, object_before, named_before, component_name}
use Rattle.ada_image.specs.ImageOfExpressions.{object_of_kind, kind_named, object_named, thing_named, thing_in}
use Rattle.ada_image.specs.ImageOfExpressions.{index_made, variable_made, variable_put, unary_made, binary_put}
use Rattle.ada_image.specs.ImageOfExpressions.{signed_made, count_of, count_made, attribute_made, object_made}
use Rattle.ada_image.specs.ImageOfExpressions.{entity_made, argument_from, arguments_from, actuals_for, image_or_none}
use Rattle.ada_image.specs.ImageOfExpressions.{optional_made, span_made, same_ticks_made, of_task_made, port_made}
use Rattle.ada_image.specs.ImageOfExpressions.{of_thing_made, function_made, calls_predefined, item_made, denoted_made}
use Rattle.ada_image.specs.ImageOfExpressions.{named_made, signs_in_arguments, call_counts, signs_in_operands}
use Rattle.ada_image.specs.ImageOfExpressions.{signs_in_addends, signs_in_factors, operands_made, addends_made}
use Rattle.ada_image.specs.ImageOfExpressions.{factors_made, logical_made, relational_made, adding_made}
use Rattle.ada_image.specs.ImageOfExpressions.{multiplying_made, expression_made, optional_value, signs_in, signs_if}
use Rattle.ada_image.specs.ImageOfProcedures.{thing_of, variable_of, innermost_object, object_of_handler, handler_with}
use Rattle.ada_image.specs.ImageOfProcedures.{handler_of as handler_of_of_imageofprocedures, moment_of, is_in_time}
use Rattle.ada_image.specs.ImageOfProcedures.{setting_made, set_event_put, set_timer_put, cancel_put, budget_put}
use Rattle.ada_image.specs.ImageOfProcedures.{task_put, values_put, procedure_with, procedure_put}
use Rattle.ada_image.specs.ImageOfStatements.{position_of_scope, scope_at, array_name, array_assigned}
use Rattle.ada_image.specs.ImageOfStatements.{controlled_assigned, value_assigned, assigned_whole, assigned}
use Rattle.ada_image.specs.ImageOfStatements.{assignment_put, delay_put, value_returned, return_put, raised_item}
use Rattle.ada_image.specs.ImageOfStatements.{exception_denoted, exception_named, raise_put, has_label, loop_left}
use Rattle.ada_image.specs.ImageOfStatements.{exit_put, static_or_zero, choice_made, choices_made, handled_made}
use Rattle.ada_image.specs.ImageOfStatements.{entry_at, abort_put, unit_of_entry, requeue_put, signs_in_trigger}
use Rattle.ada_image.specs.ImageOfStatements.{label_of, parameter_of as parameter_of_of_imageofstatements}
use Rattle.ada_image.specs.ImageOfStatements.{signs_in_alternative, signs_in_alternatives, inside, inside_if}
use Rattle.ada_image.specs.ImageOfStatements.{branch_put, elsifs_put, if_put, alternatives_put, case_put, loop_body}
use Rattle.ada_image.specs.ImageOfStatements.{forever_put, while_put, for_put, iteration_put, loop_put, block_put}
use Rattle.ada_image.specs.ImageOfStatements.{handlers_put, accept_body_put, accept_put, alternative_put}
use Rattle.ada_image.specs.ImageOfStatements.{select_alternative_put, select_alternatives_put, else_put}
use Rattle.ada_image.specs.ImageOfStatements.{selective_accept_put, call_before, delay_before, timed_call_put}
use Rattle.ada_image.specs.ImageOfStatements.{conditional_call_put, trigger_put, asynchronous_put, select_put}
use Rattle.ada_image.specs.ImageOfStatements.{statement_put, statements_put}
use Rattle.ada_image.specs.ImageOfUnits.{declarations_of_package, declares_package, has_body, declared_by_package}
use Rattle.ada_image.specs.ImageOfUnits.{part_from, part_of, package_declaration_put, package_part}
use Rattle.ada_image.specs.ImageOfUnits.{package_statements_put, package_body_put, package_put, packages_put}
use Rattle.ada_image.specs.ImageOfUnits.{scalar_initial, scalar_or_array, initial_of_call, initial_made, kind_of_type}
use Rattle.ada_image.specs.ImageOfUnits.{kind_with_task, kind_of_subtype, kind_of_sort, range_if_value, range_of_sort}
use Rattle.ada_image.specs.ImageOfUnits.{numbered_object, declaration_made, declarations_made, actions_made, all_made}
use Rattle.ada_image.specs.ImageOfUnits.{main_of as main_of_of_imageofunits, program_with, program_from, program_of}
use Rattle.ada_image.specs.Layout.{array_of as array_of_of_layout, cell_subtype, range_of_cells, index_range, first_in}
use Rattle.ada_image.specs.Layout.{first_value, width, width_of_array, width_of_subtype, components_of_owner}
use Rattle.ada_image.specs.Layout.{width_of_components, width_of_type, width_of_object, cells_of_sort}
use Rattle.ada_image.specs.Layout.{cells_of_declaration, stands_beside, place_behind, run_of, runs_of_components}
use Rattle.ada_image.specs.Layout.{runs_of_type, runs_of_subtype, runs_of_parameter, runs_of_sort, runs_from}
use Rattle.ada_image.specs.Layout.{declarations_in_scope, keeps, first_action, scope_made, scopes_made, formal_made}
use Rattle.ada_image.specs.Layout.{subprogram_made, enumeration_made}
use Rattle.ada_image.specs.Making.{value_put, action_put, reserved, put_at, first_put}
use Rattle.ada_image.specs.PoliciesOfImage.{word_in_form, bound_of, number_in_form, word_of, number_of, policy_of}
use Rattle.ada_image.specs.PoliciesOfImage.{range_with, whole_range_with, specific_range, ranges_of_pragma}
use Rattle.ada_image.specs.PoliciesOfImage.{range_inserted, ranges_sorted, queues_by_priority, queuing_of, least_of}
use Rattle.ada_image.specs.PoliciesOfImage.{longest_in_arguments, longest_in, longest_of, policies_of}
use Rattle.ada_image.specs.TypesOfExpressions.{indexed, type_of_result, type_of_kind, type_of_item, type_denoted}
use Rattle.ada_image.specs.TypesOfExpressions.{type_of_sum, type_of_product, type_of_addends, type_of_factors}
use Rattle.ada_image.specs.TypesOfExpressions.{type_of_named, type_of_expression, is_span}
use Rattle.ada_image.specs.UnitsOfImage.{level_of, aspect_value, static_aspect, priority_of, same_entry_unit}
use Rattle.ada_image.specs.UnitsOfImage.{entries_from, entries_of, task_unit_with, task_units_made, place_among}
use Rattle.ada_image.specs.UnitsOfImage.{entry_with, entry_body_made, entries_made, components_from, component_numbers}
use Rattle.ada_image.specs.UnitsOfImage.{inserted, attached_interrupt, inserted_if, attachments_from, attachments_of}
use Rattle.ada_image.specs.UnitsOfImage.{default_ceiling, protected_unit_made, protected_units_made, is_of_type}
use Rattle.ada_image.specs.UnitsOfImage.{has_one_of_type, overrides, overriding_from, overriding, controlled_type_made}
use Rattle.ada_image.specs.UnitsOfImage.{controlled_types_made}
use Rattle.world_tables.specs.Tables.{item_at, with_item, put}
use Rattle.ada_legality.specs.Aspects.{aspect_named, static_level, aspect_with_value, aspect_alone, aspect_read}
use Rattle.ada_legality.specs.Aspects.{aspects_read, may_have_aspect, is_priority_value, stands_before_in}
use Rattle.ada_legality.specs.Aspects.{wrong_priority, wrong_cpu, wrong_deadline, wrong_interrupt, priority_judged}
use Rattle.ada_legality.specs.Aspects.{attachment_noted, interrupt_judged, aspect_judged, aspects_from, aspects_judged}
use Rattle.ada_legality.specs.Aspects.{aspects_found, if_priority_value, priority_aspect, stated_value}
use Rattle.ada_legality.specs.Aspects.{place_of_priority, is_other_ceiling}
use Rattle.ada_legality.specs.Attributes.{type_of_index, type_of_mark_ends, ends_of_mark, ends_of_object, type_of_ends}
use Rattle.ada_legality.specs.Attributes.{has_images, in_own_task, has_count, is_task_object, protected_procedure}
use Rattle.ada_legality.specs.Attributes.{object_prefix, single_object, handler_object, is_library_entity}
use Rattle.ada_legality.specs.Attributes.{is_handler_of, is_library_handler, typed_access, typed_attribute}
use Rattle.ada_legality.specs.Attributes.{typed_attribute_of, prefix_is_variable, is_variable, unit_type_of_entry}
use Rattle.ada_legality.specs.Attributes.{kind_of_identifier, innermost_unit, is_own_entry}
use Rattle.ada_legality.specs.CallStatements.{value_found, value_alone_found, condition_found, pair_judged}
use Rattle.ada_legality.specs.CallStatements.{bounds_judged, bounds_found, bounds_if, type_of_mark, may_be_indicated}
use Rattle.ada_legality.specs.CallStatements.{type_fits_indication, is_fitting_mark, has_other_discriminant}
use Rattle.ada_legality.specs.CallStatements.{component_judged, mark_judged, indication_found, parameter_found}
use Rattle.ada_legality.specs.CallStatements.{formal_names_of, parameters_found, line_judged, call_judged, call_found}
use Rattle.ada_legality.specs.Calls.{formals_of_kind, parts_of_operation, formal_names, named_parts}
use Rattle.ada_legality.specs.Calls.{formals_of_operation, has_named, moment_is_span, formals_of_item, formals_denoted}
use Rattle.ada_legality.specs.Calls.{given_before, is_for_a_formal, stray_actuals, is_misnamed, some_are_misnamed}
use Rattle.ada_legality.specs.Calls.{all_given, wrong_actuals, actual_from}
use Rattle.ada_legality.specs.Choices.{selector_judged, choice_number, value_choice, range_choice, choice_read}
use Rattle.ada_legality.specs.Choices.{choices_read, meet, meets_before, repeated_choices, others_not_last, ends_of}
use Rattle.ada_legality.specs.Choices.{whole_range_of, range_typed, behind_range, behind_ranges, reached, covers}
use Rattle.ada_legality.specs.Choices.{is_complete, wrong_choices, case_judged}
use Rattle.ada_legality.specs.Declarations.{is_library_name, is_task_outside_library, is_outside_deadlines, task_judged}
use Rattle.ada_legality.specs.Declarations.{protected_unit_of_name, protected_noted, constant_noted, timer_noted}
use Rattle.ada_legality.specs.Declarations.{typed_object_judged, object_judged, object_found, component_found}
use Rattle.ada_legality.specs.Declarations.{is_too_long, array_judged, array_found, is_controlled_root}
use Rattle.ada_legality.specs.Declarations.{definition_found, overrides_type, overrides_some, numbered_of}
use Rattle.ada_legality.specs.Declarations.{overrides_any, is_overriding, unit_of_operation, is_specified_name}
use Rattle.ada_legality.specs.Declarations.{declares_here, completes_declaration, owner_of_aspects, specification_found}
use Rattle.ada_legality.specs.Declarations.{of_controlled_type, looks_overriding, overrides_wrongly, overriding_judged}
use Rattle.ada_legality.specs.Declarations.{subprogram_found, entries_judged, task_priority_noted, task_found}
use Rattle.ada_legality.specs.Declarations.{ceiling_noted, protected_found, unit_here, is_unit_of, unit_body_judged}
use Rattle.ada_legality.specs.Declarations.{subprogram_here, subprogram_body_judged, barrier_judged, barrier_found}
use Rattle.ada_legality.specs.Declarations.{entry_body_judged, use_found, subprogram_body_found, entry_body_found}
use Rattle.ada_legality.specs.Declarations.{protected_body_found, task_body_found, parts_found, sequence_found}
use Rattle.ada_legality.specs.Faults.{faults_in, walked, found_of, faults_where, faults_of}
use Rattle.ada_legality.specs.InForce.{restriction_arguments, gives_restriction, is_given, limit_in, least_limit_in}
use Rattle.ada_legality.specs.InForce.{deadline_ranges_of_pragma, deadline_ranges_of, in_force_with, in_force_by}
use Rattle.ada_legality.specs.Packages.{denote_entity, bodies_of_packages, completes_package, body_judged}
use Rattle.ada_legality.specs.Packages.{is_completed_here, needs_body, bodies_in_package, package_needs_body}
use Rattle.ada_legality.specs.Packages.{has_package_body, declaration_judged, packages_judged}
use Rattle.ada_legality.specs.Pragmas.{plain_word, word_in, whole_literal, integer_named, end_of_range, number_of_form}
use Rattle.ada_legality.specs.Pragmas.{is_one_word, is_specific, is_restriction, is_of_profile, is_pragma_of_profile}
use Rattle.ada_legality.specs.Pragmas.{is_given_again, range_of_pragma, overlaps_before, stands_beside_specific}
use Rattle.ada_legality.specs.Pragmas.{is_wrong_pragma, wrong_pragmas, pragmas_judged}
use Rattle.ada_legality.specs.Profiles.{range_of_indication, same_ranges, same_indication, same_indication_if}
use Rattle.ada_legality.specs.Profiles.{names_with_parameters, same_parameter, all_same_parameters, conforms}
use Rattle.ada_legality.specs.Profiles.{conforms_to, specification_of as specification_of_of_profiles}
use Rattle.ada_legality.specs.Profiles.{entry_declared_as, declaration_noted, body_noted, body_profile_judged}
use Rattle.ada_legality.specs.Profiles.{entry_body_profile_judged, accept_conforms}
use Rattle.ada_legality.specs.ReadExpressions.{name_shape, name_read, attribute_read, element_judged, denoted_judged}
use Rattle.ada_legality.specs.ReadExpressions.{is_unclear_object, index_fits, may_be_value, name_judged}
use Rattle.ada_legality.specs.ReadExpressions.{may_have_attribute, attribute_alone, image_judged, attribute_judged}
use Rattle.ada_legality.specs.ReadExpressions.{operand_read, operands_read, addends_read, factors_read}
use Rattle.ada_legality.specs.ReadExpressions.{logical_expression, relational_expression, adding_expression}
use Rattle.ada_legality.specs.ReadExpressions.{multiplying_expression, signed_expression, highest_expression}
use Rattle.ada_legality.specs.ReadExpressions.{bracketed_expression, arguments_read, named_expression, read_expression}
use Rattle.ada_legality.specs.Reading.{literal_at, value_judged, literal_as_operand, as_operand, whole_asked}
use Rattle.ada_legality.specs.Reading.{pointed_asked, asked_of, fitted, expected, without_point, operation_judged}
use Rattle.ada_legality.specs.Reading.{concatenation_judged, operation_of_one_judged, functions_of_unit}
use Rattle.ada_legality.specs.Reading.{component_assigned, assigning_actual, wanted_of_handler, handles_objects_of}
use Rattle.ada_legality.specs.Reading.{handler_actual, actual_wanted, actuals_fitted, sets_event_by_span}
use Rattle.ada_legality.specs.Reading.{actuals_numbered, actuals_judged, longest, length_of_image, length_by_mark}
use Rattle.ada_legality.specs.Reading.{image_length, both_lengths, type_of_prefix, is_own_component}
use Rattle.ada_legality.specs.Reading.{denotes_barrier_part, number_read, text_read, bracketed_read, signed_read}
use Rattle.ada_legality.specs.Reading.{signed_judged, typed_sum, sum_judged, first_relation, with_relation}
use Rattle.ada_legality.specs.Reading.{compared_read, first_term, with_term, with_factor, highest_read}
use Rattle.ada_legality.specs.SimpleStatements.{typed_target, type_of_index_of, same_types, copies_a_parameter}
use Rattle.ada_legality.specs.SimpleStatements.{is_wrong_target, assignment_judged, target_judged, assignment_found}
use Rattle.ada_legality.specs.SimpleStatements.{delay_found, exit_judged, exit_found, function_around}
use Rattle.ada_legality.specs.SimpleStatements.{stands_in_package, return_judged, return_found, denotes_exception}
use Rattle.ada_legality.specs.SimpleStatements.{raise_found, is_task_name, abort_found, accept_or_entry}
use Rattle.ada_legality.specs.SimpleStatements.{names_unit_around, is_of_same_object, is_task_entry, is_possible_target}
use Rattle.ada_legality.specs.SimpleStatements.{same_formals, formals_fit, requeues_from, is_right_requeue}
use Rattle.ada_legality.specs.SimpleStatements.{requeue_found, loop_parameter, type_between, with_iteration}
use Rattle.ada_legality.specs.SimpleStatements.{cells_noted, iteration_found, trigger_found, entry_call_found}
use Rattle.ada_legality.specs.SimpleStatements.{has_delay, has_mixed_delays, terminates, excludes, is_selective_accept}
use Rattle.ada_legality.specs.SimpleStatements.{terminates_forbidden, selective_accept_judged}
use Rattle.ada_legality.specs.Statements.{stands_in_own_task, accept_judged, repeated_names, others_before_last}
use Rattle.ada_legality.specs.Statements.{handled_judged, if_found, choices_of_case, case_found, loop_found}
use Rattle.ada_legality.specs.Statements.{accept_found, selective_accept_found, timed_call_found}
use Rattle.ada_legality.specs.Statements.{conditional_call_found, asynchronous_select_found, select_found}
use Rattle.ada_legality.specs.Types.{same_type, is_limited, is_copied_controlled, sum_of as sum_of_of_types}
use Rattle.ada_legality.specs.Types.{difference_of, product_of as product_of_of_types, quotient_of, remainder_of}
use Rattle.ada_legality.specs.Types.{result_of, result_of_one, typed_is, operation_type, operation_type_of_one, fits}
use Rattle.ada_legality.specs.Types.{type_of_low, type_of_bounds}
use Rattle.ada_legality.specs.Units.{with_found, clause_found, package_declaration_found, package_body_found}
use Rattle.ada_legality.specs.Units.{library_package_found, main_priority_noted, main_found, units_found, indexes_from}
use Rattle.ada_legality.specs.Units.{indexes_of, known_of}
use Rattle.ada_legality.specs.UnitsUsed.{unit_in_parts, is_usable_unit, unit_unseen, long_name, found_before}
use Rattle.ada_legality.specs.UnitsUsed.{found_behind, found_from}
use Rattle.ada_legality.specs.Values.{subtype_of_object, type_of_constant, subtype_of_entity, denotes_value}
use Rattle.ada_legality.specs.Values.{denotes_object, denotes_function, denotes_procedure, component_subtype}
use Rattle.ada_legality.specs.Values.{subtype_with_index, typed_constant, typed_value, result_of_kind}
use Rattle.ada_legality.specs.Values.{typed_operation_call, typed_call, typed_denoted, typed_name, stands_in_unit}
use Rattle.ada_legality.specs.Values.{stands_in_type, is_library_object}
use Rattle.ada_legality.specs.WholeSource.{bodies_of, has_known_body, is_uncompleted, has_attached, handlers_of_object}
use Rattle.ada_legality.specs.WholeSource.{taken_number, numbers_of_object, ceiling_of, in_deadline_range, range_judged}
use Rattle.ada_legality.specs.WholeSource.{names_task, judged_beside, judged_from, passing_cells, found_beside}
use Rattle.ada_legality.specs.Words.{number_of_literal, literal_number, number_of_expression, static_number, same_named}
use Rattle.ada_legality.specs.Words.{any_in_body, any_in_sequence}

unfoldable pub lexing : ⊤
unfolding gap_state is_run undoubled behind_all word_at number_at text_at piece_at tokens_from tokens_of is_reserved
    run_length value_behind text_length
lexing = tt

unfoldable pub reading : ⊤
unfolding is_shaped starts starts_both token the_word the_delimiter an_identifier a_number a_text flag_of end_name_of
    opening_of opening_is_of items_from items_of behind_delimiter_of separated_of identifiers_of name_of names_of
    body_of subprogram_operation_of entry_operation_of operation_body_of subprogram_body_of subprogram_of
    task_body_of any_task_of protected_body_of any_protected_of declaration_of begins_declaration initial_of
    object_of exception_of named_declaration_of component_of enumeration_of array_of null_record_of
    components_record_of extension_of derived_of definition_of type_of subtype_of use_of aspect_value_of aspect_of
    given_aspects_of aspects_of overriding_of procedure_of function_of specification_of entry_of
    task_definition_of task_of specified_operation_of operation_of private_of protected_of entry_head_of
    relational_of adding_of comparison_of addition_of multiplying_delimiter_of multiplying_word_of
    multiplication_of conjunction_of disjunction_of exclusive_of logical_operator_of both_words_of
    this_attribute_of attribute_word_of designator_of named_argument_of argument_of given_arguments_of
    arguments_of named_of bracketed_of primary_of highest_of factor_of multiplied_of product_of term_of signed_of
    first_term_of addend_of addition_behind_of sum_of compared_of relation_of operand_of joined_of logical_of
    expression_of inner_of statement_of statements_of handler_of given_handlers_of handlers_of declarations_of
    plain_of handled_behind_of whole_body_of sequence_of further_in access_of bounds_of range_of constraint_of
    subtype_indication_of parameter_of given_parameters_of parameters_of assignment_behind_of call_behind_of
    simple_of call_of delay_of value_choice_of choice_of while_of for_of iteration_of loop_name_of when_of exit_of
    null_of result_value_of return_of exception_name_of raise_of abort_of with_abort_of requeue_of exceptions_of
    begins_statement call_opened_of delay_opened_of elsif_of else_of if_of case_alternative_of
    case_alternatives_of case_of loop_of block_end_of declare_of begin_of block_of labelled_of accept_body_of
    accept_of optional_statements_of accept_alternative_of delay_alternative_of terminate_of alternative_of
    guard_of select_alternative_of next_alternative_of selective_of asynchronous_of timed_of conditional_of
    behind_call_of call_select_of delay_select_of select_form_of select_of compound_of named_statement_of
    simple_statement_of statement_inside_of pragma_of with_of use_clause_of clause_of context_of private_part_of
    package_declaration_of package_statements_of package_body_of package_of packages_from packages_of main_of
    source_of unit_of
reading = tt

unfoldable pub naming : ⊤
unfolding completed_in headed owned numbered_if body_of_declared completed_or_declared completed is_unit seen_again
    body_apart task_scoped body_of_unit first_body later_body body_here body_elsewhere body_sought body_begun
    entry_mentioned hidden entered entered_here unit_is_taken entered_as_unit numbered constant_value
    task_indicated object_declared component_declared parameter_declared loop_parameter_declared
    exception_declared enumeration_declared position_of_literal literal_declared array_declared
    numbered_controlled derived_declared subtype_declared owner_type subprogram_declared entry_declared
    unit_entered task_declared protected_declared declared expanded behind same_unit child_unit root_unit
    parent_unit declared_in_standard declared_in_system declared_in_text_io declared_in_real_time
    declared_in_timing_events declared_in_execution_time declared_in_timers declared_in_group_budgets
    declared_in_dynamic_priorities declared_in_task_identification declared_in_dispatching declared_in_round_robin
    declared_in_edf declared_in_finalization declared_in_script_ports item_in scope_begun package_named
    context_of_package context_again package_begun package_body_begun unit_begun record_begun entry_owner
    entry_body_numbered entry_body_begun begun unit_named library_unit withed used region_of_type region_selected
    exported_by declared_inside selected name_resolved micros_of literal_value static_literal static_negative
    range_of_type value_denoted subtype_denoted attribute_value static_name static_value range_between
    mark_denoted constrained indicated_subtype array_type formals_of item_of in_standard directly stands_under
    exported_from visible_in same_denoted sought resolved
naming = tt

-- all but call_statement_put
unfoldable pub building_around_calls : ⊤
unfolding entity_call_put item_call_put denoted_call_put signs_in_actuals target_made variable_in_form variable_in
    in_made out_made in_out_made mode_made thing_actual actual_made actuals_made arguments_made callee_of
    owner_of_entry call_put entry_call_put call_of_kind call_of_name function_call function_call_put piece_of_type
    image_piece value_or_none image_made piece_in_form piece_made joined_made all_joined pieces_in_form
    pieces_made put_line_put kind_declared number_declared subtype_declared_as signs_of_components signs_of_type
    signs_of_object initialize_if function_call_if object_declaration_put object_elaborated object_put objects_put
    single_put object_makes_task declaration_put declarations_put makes_task make_tasks activation_put
    end_of_activation_put subprogram_declared_as body_put operation_body_put operation_bodies_put inner_body_put
    inner_bodies_put unhandled_put with_handlers_put handled_put whole_put parts_put prefix_part object_outside
    object_before named_before component_name object_of_kind kind_named object_named thing_named thing_in
    index_made variable_made variable_put unary_made binary_put signed_made count_of count_made attribute_made
    object_made entity_made argument_from arguments_from actuals_for image_or_none optional_made span_made
    same_ticks_made of_task_made port_made of_thing_made function_made calls_predefined item_made denoted_made
    named_made signs_in_arguments call_counts signs_in_operands signs_in_addends signs_in_factors operands_made
    addends_made factors_made logical_made relational_made adding_made multiplying_made expression_made
    optional_value signs_in signs_if thing_of variable_of innermost_object object_of_handler handler_with
    handler_of_of_imageofprocedures moment_of is_in_time setting_made set_event_put set_timer_put cancel_put
    budget_put task_put values_put procedure_with procedure_put position_of_scope scope_at array_name
    array_assigned controlled_assigned value_assigned assigned_whole assigned assignment_put delay_put
    value_returned return_put raised_item exception_denoted exception_named raise_put has_label loop_left exit_put
    static_or_zero choice_made choices_made handled_made entry_at abort_put unit_of_entry requeue_put
    signs_in_trigger label_of parameter_of_of_imageofstatements signs_in_alternative signs_in_alternatives inside
    inside_if branch_put elsifs_put if_put alternatives_put case_put loop_body forever_put while_put for_put
    iteration_put loop_put block_put handlers_put accept_body_put accept_put alternative_put
    select_alternative_put select_alternatives_put else_put selective_accept_put call_before delay_before
    timed_call_put conditional_call_put trigger_put asynchronous_put select_put statement_put statements_put
    declarations_of_package declares_package has_body declared_by_package part_from part_of
    package_declaration_put package_part package_statements_put package_body_put package_put packages_put
    scalar_initial scalar_or_array initial_of_call initial_made kind_of_type kind_with_task kind_of_subtype
    kind_of_sort range_if_value range_of_sort numbered_object declaration_made declarations_made actions_made
    all_made main_of_of_imageofunits program_with program_from program_of array_of_of_layout cell_subtype
    range_of_cells index_range first_in first_value width width_of_array width_of_subtype components_of_owner
    width_of_components width_of_type width_of_object cells_of_sort cells_of_declaration stands_beside
    place_behind run_of runs_of_components runs_of_type runs_of_subtype runs_of_parameter runs_of_sort runs_from
    declarations_in_scope keeps first_action scope_made scopes_made formal_made subprogram_made enumeration_made
    value_put action_put reserved put_at first_put word_in_form bound_of number_in_form word_of number_of
    policy_of range_with whole_range_with specific_range ranges_of_pragma range_inserted ranges_sorted
    queues_by_priority queuing_of least_of longest_in_arguments longest_in longest_of policies_of indexed
    type_of_result type_of_kind type_of_item type_denoted type_of_sum type_of_product type_of_addends
    type_of_factors type_of_named type_of_expression is_span level_of aspect_value static_aspect priority_of
    same_entry_unit entries_from entries_of task_unit_with task_units_made place_among entry_with entry_body_made
    entries_made components_from component_numbers inserted attached_interrupt inserted_if attachments_from
    attachments_of default_ceiling protected_unit_made protected_units_made is_of_type has_one_of_type overrides
    overriding_from overriding controlled_type_made controlled_types_made item_at with_item put
building_around_calls = tt

unfoldable pub building : ⊤
unfolding building_around_calls call_statement_put
building = tt

-- all but call_found
unfoldable pub judging_around_calls : ⊤
unfolding aspect_named static_level aspect_with_value aspect_alone aspect_read aspects_read may_have_aspect
    is_priority_value stands_before_in wrong_priority wrong_cpu wrong_deadline wrong_interrupt priority_judged
    attachment_noted interrupt_judged aspect_judged aspects_from aspects_judged aspects_found if_priority_value
    priority_aspect stated_value place_of_priority is_other_ceiling type_of_index type_of_mark_ends ends_of_mark
    ends_of_object type_of_ends has_images in_own_task has_count is_task_object protected_procedure object_prefix
    single_object handler_object is_library_entity is_handler_of is_library_handler typed_access typed_attribute
    typed_attribute_of prefix_is_variable is_variable unit_type_of_entry kind_of_identifier innermost_unit
    is_own_entry value_found value_alone_found condition_found pair_judged bounds_judged bounds_found bounds_if
    type_of_mark may_be_indicated type_fits_indication is_fitting_mark has_other_discriminant component_judged
    mark_judged indication_found parameter_found formal_names_of parameters_found line_judged call_judged
    formals_of_kind parts_of_operation formal_names named_parts formals_of_operation has_named moment_is_span
    formals_of_item formals_denoted given_before is_for_a_formal stray_actuals is_misnamed some_are_misnamed
    all_given wrong_actuals actual_from selector_judged choice_number value_choice range_choice choice_read
    choices_read meet meets_before repeated_choices others_not_last ends_of whole_range_of range_typed
    behind_range behind_ranges reached covers is_complete wrong_choices case_judged is_library_name
    is_task_outside_library is_outside_deadlines task_judged protected_unit_of_name protected_noted constant_noted
    timer_noted typed_object_judged object_judged object_found component_found is_too_long array_judged
    array_found is_controlled_root definition_found overrides_type overrides_some numbered_of overrides_any
    is_overriding unit_of_operation is_specified_name declares_here completes_declaration owner_of_aspects
    specification_found of_controlled_type looks_overriding overrides_wrongly overriding_judged subprogram_found
    entries_judged task_priority_noted task_found ceiling_noted protected_found unit_here is_unit_of
    unit_body_judged subprogram_here subprogram_body_judged barrier_judged barrier_found entry_body_judged
    use_found subprogram_body_found entry_body_found protected_body_found task_body_found parts_found
    sequence_found faults_in walked found_of faults_where faults_of restriction_arguments gives_restriction
    is_given limit_in least_limit_in deadline_ranges_of_pragma deadline_ranges_of in_force_with in_force_by
    denote_entity bodies_of_packages completes_package body_judged is_completed_here needs_body bodies_in_package
    package_needs_body has_package_body declaration_judged packages_judged plain_word word_in whole_literal
    integer_named end_of_range number_of_form is_one_word is_specific is_restriction is_of_profile
    is_pragma_of_profile is_given_again range_of_pragma overlaps_before stands_beside_specific is_wrong_pragma
    wrong_pragmas pragmas_judged range_of_indication same_ranges same_indication same_indication_if
    names_with_parameters same_parameter all_same_parameters conforms conforms_to specification_of_of_profiles
    entry_declared_as declaration_noted body_noted body_profile_judged entry_body_profile_judged accept_conforms
    name_shape name_read attribute_read element_judged denoted_judged is_unclear_object index_fits may_be_value
    name_judged may_have_attribute attribute_alone image_judged attribute_judged operand_read operands_read
    addends_read factors_read logical_expression relational_expression adding_expression multiplying_expression
    signed_expression highest_expression bracketed_expression arguments_read named_expression read_expression
    literal_at value_judged literal_as_operand as_operand whole_asked pointed_asked asked_of fitted expected
    without_point operation_judged concatenation_judged operation_of_one_judged functions_of_unit
    component_assigned assigning_actual wanted_of_handler handles_objects_of handler_actual actual_wanted
    actuals_fitted sets_event_by_span actuals_numbered actuals_judged longest length_of_image length_by_mark
    image_length both_lengths type_of_prefix is_own_component denotes_barrier_part number_read text_read
    bracketed_read signed_read signed_judged typed_sum sum_judged first_relation with_relation compared_read
    first_term with_term with_factor highest_read typed_target type_of_index_of same_types copies_a_parameter
    is_wrong_target assignment_judged target_judged assignment_found delay_found exit_judged exit_found
    function_around stands_in_package return_judged return_found denotes_exception raise_found is_task_name
    abort_found accept_or_entry names_unit_around is_of_same_object is_task_entry is_possible_target same_formals
    formals_fit requeues_from is_right_requeue requeue_found loop_parameter type_between with_iteration
    cells_noted iteration_found trigger_found entry_call_found has_delay has_mixed_delays terminates excludes
    is_selective_accept terminates_forbidden selective_accept_judged stands_in_own_task accept_judged
    repeated_names others_before_last handled_judged if_found choices_of_case case_found loop_found accept_found
    selective_accept_found timed_call_found conditional_call_found asynchronous_select_found select_found
    same_type is_limited is_copied_controlled sum_of_of_types difference_of product_of_of_types quotient_of
    remainder_of result_of result_of_one typed_is operation_type operation_type_of_one fits type_of_low
    type_of_bounds with_found clause_found package_declaration_found package_body_found library_package_found
    main_priority_noted main_found units_found indexes_from indexes_of known_of unit_in_parts is_usable_unit
    unit_unseen long_name found_before found_behind found_from subtype_of_object type_of_constant
    subtype_of_entity denotes_value denotes_object denotes_function denotes_procedure component_subtype
    subtype_with_index typed_constant typed_value result_of_kind typed_operation_call typed_call typed_denoted
    typed_name stands_in_unit stands_in_type is_library_object bodies_of has_known_body is_uncompleted
    has_attached handlers_of_object taken_number numbers_of_object ceiling_of in_deadline_range range_judged
    names_task judged_beside judged_from passing_cells found_beside number_of_literal literal_number
    number_of_expression static_number same_named any_in_body any_in_sequence
judging_around_calls = tt

unfoldable pub judging : ⊤
unfolding judging_around_calls call_found
judging = tt
