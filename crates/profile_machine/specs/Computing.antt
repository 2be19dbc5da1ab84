-- All steps of the machine that have names: on an `unfolding` line this lets a proof compute an effect, or a whole run.
use Rattle.std.specs.Prelude.{⊤}
use Rattle.profile_machine.specs.Dispatching.{says_ready, to_tail, to_head, ready, says_block, block}
use Rattle.profile_machine.specs.Frames.{goes, leaves, raises, open_handled, open_at}
use Rattle.profile_machine.specs.Frames.{open_sequence, open_if_ready, exit_loop, pass_on}
use Rattle.profile_machine.specs.Inheritance.{inherit_running, lose_running}
use Rattle.profile_machine.specs.Calls.{says_call, enqueue, attempt_on}
use Rattle.profile_machine.specs.Unwinding.{leave_by_abort, stop_waiting, wake_and_leave}
use Rattle.profile_machine.specs.Unwinding.{unwind_blocked, unwind_in, unwind}
use Rattle.profile_machine.specs.CallEnds.{go_by_outcome, resume, trigger_at, run_triggered}
use Rattle.profile_machine.specs.CallEnds.{behind_abortable, end_abortable, end_abortable_in}
use Rattle.profile_machine.specs.CallEnds.{end_top_abortable, end_wait, end_for_abortable}
use Rattle.profile_machine.specs.CallEnds.{end_for_caller, end_for, end_with, end_call, deliver, gone}
use Rattle.profile_machine.specs.Masters.{gone_by_completion, wake_activator, end_group}
use Rattle.profile_machine.specs.Masters.{end_activation_by, end_activation, complete_with}
use Rattle.profile_machine.specs.Masters.{complete, wake_master, terminate, leave_by_terminate}
use Rattle.profile_machine.specs.Statements.{becomes, null, assign, assign_array, if_statement, go_to_alternative}
use Rattle.profile_machine.specs.Statements.{case_statement, while_turn, for_bounds, first_turn, advance}
use Rattle.profile_machine.specs.Statements.{later_turn, exit_where, exit_statement, block_statement, raise_again}
use Rattle.profile_machine.specs.Statements.{wait_until, delay_to, delay_until, put_line}
use Rattle.profile_machine.specs.Subprograms.{begin_body, call_subprogram, return_result}
use Rattle.profile_machine.specs.Subprograms.{return_value, return, store_result, end_subprogram}
use Rattle.profile_machine.specs.Protected.{find_held, begin_action_on, begin_operation}
use Rattle.profile_machine.specs.Protected.{call_operation_of, call_operation, begin_own_operation}
use Rattle.profile_machine.specs.Protected.{call_own_operation, begin_call, body_opens}
use Rattle.profile_machine.specs.Priorities.{reprioritize, reprioritize_own, replace_in, says_base, set_base}
use Rattle.profile_machine.specs.Priorities.{says_deadline, set_deadline, take_base, take_deadline}
use Rattle.profile_machine.specs.Priorities.{set_deferred, defer_base, set_or_defer_base, set_base_of}
use Rattle.profile_machine.specs.Priorities.{set_priority, set_quantum, defer_deadline, set_or_defer_deadline}
use Rattle.profile_machine.specs.Priorities.{set_deadline_of, delay_with_deadline, delay_and_set_deadline}
use Rattle.profile_machine.specs.Sending.{cancel_at_once, wait_for_call, wait_or_cancel, not_accepted, send_on}
use Rattle.profile_machine.specs.Sending.{cancel_sent, begin_abortable, sent_not_begun_by, sent_not_begun}
use Rattle.profile_machine.specs.Serving.{serve_ends, end_release, wait_or_unwind, wait_for_own, resume_own}
use Rattle.profile_machine.specs.Serving.{behind_action, release_object, settle_sent, begins_part, serve_next}
use Rattle.profile_machine.specs.Serving.{serve_calls, go_on_by_mode, end_operation, finish_raised}
use Rattle.profile_machine.specs.Serving.{finish_well, finish_call, end_entry_body, end_in_protected_by}
use Rattle.profile_machine.specs.Serving.{end_in_protected, keep_values, end_body_of_entry}
use Rattle.profile_machine.specs.Rendezvous.{begin_accept, finish_without_room, accept_with_room, accept_call}
use Rattle.profile_machine.specs.Rendezvous.{accept_or_wait, accept, accept_chosen, wait_at_select, select_delay}
use Rattle.profile_machine.specs.Rendezvous.{select_wait, select_otherwise, select_by_call, select_open}
use Rattle.profile_machine.specs.Rendezvous.{selective_accept, gone_sent, meet_sent, arrive_at, arrive}
use Rattle.profile_machine.specs.Rendezvous.{finish_accept, finish_rendezvous, behind_accept, end_in_accept}
use Rattle.profile_machine.specs.EntryCalls.{end_at_once, call_gone, call_meets, call_queues, call_not_met}
use Rattle.profile_machine.specs.EntryCalls.{call_accepted_by, call_callable, call_task, call_runs, call_without_room}
use Rattle.profile_machine.specs.EntryCalls.{call_runs_if_room, call_passes, call_refused, call_closed, call_by_barrier}
use Rattle.profile_machine.specs.EntryCalls.{call_object, call_owner, call_named, entry_call, trigger_delay}
use Rattle.profile_machine.specs.EntryCalls.{async_delay, async_by_trigger, asynchronous_select, requeue}
use Rattle.profile_machine.specs.Controlled.{open_operation, register, initialize_by, initialize}
use Rattle.profile_machine.specs.Controlled.{end_in_initialize, open_finalize, finalize_by, finalize_now}
use Rattle.profile_machine.specs.Controlled.{finalize, behind_finalize, end_in_finalize, begin_assignment}
use Rattle.profile_machine.specs.Controlled.{assign_registered, assign_located, assign_controlled}
use Rattle.profile_machine.specs.Controlled.{leave_without_room, finalize_target_by, adjust_by, end_in_assign}
use Rattle.profile_machine.specs.Declarations.{says_object, declare_protected, declare_quietly, declare_by, declare}
use Rattle.profile_machine.specs.Tasking.{says_created, create_task, create, fall_from, begin_task, says_done}
use Rattle.profile_machine.specs.Tasking.{fail_to_begin, activate_one, await_group, activate_group, activate}
use Rattle.profile_machine.specs.Tasking.{end_own_activation, end_made, complete_if_task, wait_for_dependents}
use Rattle.profile_machine.specs.Tasking.{leave_region, end_task, behind_scope, says_left, end_of_scope}
use Rattle.profile_machine.specs.Tasking.{go_on_leaving, end_scope_mark_of, end_scope_mark, says_abort}
use Rattle.profile_machine.specs.Tasking.{abort_one, unwind_by, unwind_one, abort_all, abort_statement}
use Rattle.profile_machine.specs.Tasking.{block_at_terminate, take_terminates, unwind_all}
use Rattle.profile_machine.specs.Handlers.{says_release, wake_agent, release, begin_handler, begin_handler_if_room}
use Rattle.profile_machine.specs.Handlers.{enter_handler, call_handler, interrupt, answer, appoint_event}
use Rattle.profile_machine.specs.Handlers.{event_set_to, set_event, cancel_event, timer_set_beyond, timer_set_to}
use Rattle.profile_machine.specs.Handlers.{set_timer, cancel_timer, change_member, add_member, remove_member}
use Rattle.profile_machine.specs.Handlers.{fill_budget, replenish, add_to_budget, set_budget, cancel_budget}
use Rattle.profile_machine.specs.Act.{call_main, call, handle_or_pass, behind_handled, end_handled}
use Rattle.profile_machine.specs.Act.{end_top, wait_for_trigger, end_abortable_by, end_in_abortable}
use Rattle.profile_machine.specs.Act.{act_statement, end_mark, act_frame, act_without, act_top, act}
use Rattle.profile_machine.specs.Instant.{effect, interrupt_comes, deliver_kept_interrupt, script_item}
use Rattle.profile_machine.specs.Instant.{items_due, take_delay, end_delay, time_out, come_due}
use Rattle.profile_machine.specs.Instant.{all_due, expire, expire_timer, run_out, spend_quantum}
use Rattle.profile_machine.specs.Run.{opens}

unfoldable pub computing : ⊤
unfolding says_ready to_tail to_head ready says_block block goes leaves raises open_handled open_at open_sequence
    open_if_ready exit_loop pass_on inherit_running lose_running says_call enqueue attempt_on leave_by_abort
    stop_waiting wake_and_leave unwind_blocked unwind_in unwind go_by_outcome resume trigger_at run_triggered
    behind_abortable end_abortable end_abortable_in end_top_abortable end_wait end_for_abortable end_for_caller
    end_for end_with end_call deliver gone gone_by_completion wake_activator end_group end_activation_by
    end_activation complete_with complete wake_master terminate leave_by_terminate becomes null assign assign_array
    if_statement go_to_alternative case_statement while_turn for_bounds first_turn advance later_turn exit_where
    exit_statement block_statement raise_again wait_until delay_to delay_until put_line begin_body call_subprogram
    return_result return_value return store_result end_subprogram find_held begin_action_on begin_operation
    call_operation_of call_operation begin_own_operation call_own_operation begin_call body_opens reprioritize
    reprioritize_own replace_in says_base set_base says_deadline set_deadline take_base take_deadline set_deferred
    defer_base set_or_defer_base set_base_of set_priority set_quantum defer_deadline set_or_defer_deadline
    set_deadline_of delay_with_deadline delay_and_set_deadline cancel_at_once wait_for_call wait_or_cancel
    not_accepted send_on cancel_sent begin_abortable sent_not_begun_by sent_not_begun serve_ends end_release
    wait_or_unwind wait_for_own resume_own behind_action release_object settle_sent begins_part serve_next
    serve_calls go_on_by_mode end_operation finish_raised finish_well finish_call end_entry_body
    end_in_protected_by end_in_protected keep_values end_body_of_entry begin_accept finish_without_room
    accept_with_room accept_call accept_or_wait accept accept_chosen wait_at_select select_delay select_wait
    select_otherwise select_by_call select_open selective_accept gone_sent meet_sent arrive_at arrive finish_accept
    finish_rendezvous behind_accept end_in_accept end_at_once call_gone call_meets call_queues call_not_met
    call_accepted_by call_callable call_task call_runs call_without_room call_runs_if_room call_passes call_refused
    call_closed call_by_barrier call_object call_owner call_named entry_call trigger_delay async_delay
    async_by_trigger asynchronous_select requeue open_operation register initialize_by initialize end_in_initialize
    open_finalize finalize_by finalize_now finalize behind_finalize end_in_finalize begin_assignment
    assign_registered assign_located assign_controlled leave_without_room finalize_target_by adjust_by
    end_in_assign says_object declare_protected declare_quietly declare_by declare says_created create_task create
    fall_from begin_task says_done fail_to_begin activate_one await_group activate_group activate
    end_own_activation end_made complete_if_task wait_for_dependents leave_region end_task behind_scope says_left
    end_of_scope go_on_leaving end_scope_mark_of end_scope_mark says_abort abort_one unwind_by unwind_one abort_all
    abort_statement block_at_terminate take_terminates unwind_all says_release wake_agent release begin_handler
    begin_handler_if_room enter_handler call_handler interrupt answer appoint_event event_set_to set_event
    cancel_event timer_set_beyond timer_set_to set_timer cancel_timer change_member add_member remove_member
    fill_budget replenish add_to_budget set_budget cancel_budget call_main call handle_or_pass behind_handled
    end_handled end_top wait_for_trigger end_abortable_by end_in_abortable act_statement end_mark act_frame
    act_without act_top act effect interrupt_comes deliver_kept_interrupt script_item items_due take_delay
    end_delay time_out come_due all_due expire expire_timer run_out spend_quantum opens
computing = tt
