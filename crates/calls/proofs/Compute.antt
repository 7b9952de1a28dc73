-- Every definition that a case computes with, by subject, behind one name: `unfolding computing` unfolds them all.
use package.Rattle.octets.specs.Numbers.{get16, get32, put16, put32, bytes16, bytes32}
use package.Rattle.rules.specs.Limits.{max_program_bytes, max_parameters, max_value_bytes, max_ancilla_bytes, fits, max_height, max_fuel, workspace_base, workspace_per_fuel, max_conversions}
use package.Rattle.rules.specs.Val.{size, encode, same}
use package.Rattle.rules.specs.Ty.{plug, unfold_ty, nodes, same_ty}
use package.Rattle.rules.specs.Term.{entry, count, nth, look, scope, within, within_all, by_ancilla}
use package.Rattle.rules.specs.Yield.{may_be, may_yield, first_match}
use package.Rattle.rules.specs.Typing.{bar_one, bar, mark_one, mark}
use package.Rattle.rules.specs.Check.{◌>>=◌, ◌>>◌, need, as_sum, as_prod, as_mu, as_fun, spent, must_use, same_use}
use package.Rattle.rules.specs.Check.{statics, room, small, infer, infer_arguments, check_fun, check_funs, check}
use package.Rattle.rules.specs.Check.{visible, is_dynamic, marked, onward, late, waits, waits_all, unless, lowest, need_none}
use package.Rattle.rules.specs.Run.{after, enter, test}
use package.Rattle.rules.specs.Machine.{on_sum, on_pair, on_roll, on_unit, on_some, known, bind_or, meet, leave, filled, each}
use package.Rattle.rules.specs.Machine.{made, forward_step, forward, branch_back, case_back, backward_step, backward, run_forward, run_backward}
use package.Rattle.rules.specs.Cases.{num}
use package.Rattle.calls.specs.Answer.{◌>>=◌ as ◌>>=Answer◌, require, present, cleared, bytes_written, overwritten}
use package.Rattle.calls.specs.Fields.{tag_at, length_at, next_at, kind_at, parameters_at, type_lengths, term_lengths, call_length, type_length, term_length, function_length, body_fits, well_formed, no_fields, with_field, within_counts, read_fields, layout}
use package.Rattle.calls.specs.Entries.{references, type_of_kind, type_at, type_tree, type_below, type_of, term_of_kind, call_ancillae, term_at, term_trees, term_tree, term_below, term_of, function_at, function_of, entries_at, program_of}
use package.Rattle.calls.specs.Named.{closed, plain, names_of, types_of_type, types_of_term, terms_of_term, functions_of_term, types_of_function, below, member, fresh, all_plain, test_types, test_terms, test_functions, test_used, test_entries}
use package.Rattle.calls.specs.Load.{offset, typed, load}
use package.Rattle.calls.specs.Values.{then, read, alone, value, encode_all, cons_to, read_all, ancillae, has_ty, has_tys}
use package.Rattle.calls.specs.Runs.{workspace_for, prepared, admit, ran, goes, returns, check_call, forward_call, backward_call, value_bytes, written}
use package.Rattle.calls.specs.Journal.{field, held_tag, entry_tag, entry_body, entry_fields, fields, write_out, ◌>>=◌ as ◌>>=Journal◌, provided, opened, read_entry, all_zero, read_entries, read_journal}
use package.Rattle.calls.specs.Conversions.{kept, turned, behind, newest, open_call, convert_call, rollback_call}
use package.Rattle.calls.specs.Readers.{most_entries, nurse_of, workshop_of, nurse_call, workshop_call, held_bytes}
use package.Rattle.calls.specs.Book.{buffer, or_stays, carry_by, carry, through, entries_of, journal_of, refusal_of, refusal, or_unit, or_none, or_empty, enters, turn_unless, book_turn, book_run, resized, after_turned, after_open, call, call_run}
use package.Rattle.calls.specs.Cases.{refs, type_field, term_field, var_field, function_field, nat_types, number_terms, number_functions, numbers, bit_types, collapse, discards, flip, units}
use package.Rattle.calls.specs.Cases.{beside_numbers, plus_kn, steering, unhelped, unhelped_twice, unmet, flip_by}

unfoldable of-numbers : Unit {0}
unfolding get16 get32 put16 put32 bytes16 bytes32
of-numbers = tt

unfoldable of-limits : Unit {0}
unfolding max_program_bytes max_parameters max_value_bytes max_ancilla_bytes fits max_height max_fuel workspace_base workspace_per_fuel max_conversions
of-limits = tt

unfoldable of-trees : Unit {0}
unfolding size encode same plug unfold_ty nodes same_ty entry count nth look scope may_be may_yield bar_one bar mark_one mark
of-trees = tt

unfoldable of_choices : Unit {0}
unfolding within within_all by_ancilla first_match branch_back case_back flip_by
of_choices = tt

unfoldable of-check : Unit {0}
unfolding ◌>>=◌ ◌>>◌ need as_sum as_prod as_mu as_fun spent must_use same_use statics room small infer infer_arguments check_fun check_funs check
of-check = tt

unfoldable of-namings : Unit {0}
unfolding visible is_dynamic marked onward late waits waits_all unless lowest need_none
of-namings = tt

unfoldable of-run : Unit {0}
unfolding after enter test
of-run = tt

unfoldable of-machine : Unit {0}
unfolding on_sum on_pair on_roll on_unit on_some known bind_or meet leave filled each made forward_step forward backward_step backward run_forward run_backward num
of-machine = tt

unfoldable of_fields : Unit {0}
unfolding tag_at length_at next_at kind_at parameters_at type_lengths term_lengths call_length type_length
of_fields = tt

unfoldable of_types : Unit {0}
unfolding references type_of_kind type_at type_tree type_below type_of term_of_kind call_ancillae
of_types = tt

unfoldable of-layout : Unit {0}
unfolding ◌>>=Answer◌ require present cleared term_length function_length body_fits well_formed no_fields with_field within_counts read_fields layout
of-layout = tt

unfoldable of_named : Unit {0}
unfolding closed plain names_of types_of_type types_of_term terms_of_term functions_of_term types_of_function
of_named = tt

unfoldable of-terms : Unit {0}
unfolding term_at term_trees term_tree term_below term_of function_at function_of entries_at program_of
of-terms = tt

unfoldable of-tests : Unit {0}
unfolding below member fresh all_plain test_types test_terms test_functions test_used test_entries offset typed load
of-tests = tt

unfoldable of_values : Unit {0}
unfolding then read alone value encode_all cons_to read_all ancillae has_ty has_tys
of_values = tt

unfoldable of-runs : Unit {0}
unfolding workspace_for prepared admit ran goes returns check_call forward_call backward_call value_bytes written
of-runs = tt

unfoldable of-journal : Unit {0}
unfolding field held_tag entry_tag entry_body entry_fields fields write_out ◌>>=Journal◌ provided opened read_entry all_zero read_entries read_journal
of-journal = tt

unfoldable of-book : Unit {0}
unfolding buffer or_stays carry_by carry through entries_of journal_of refusal_of refusal or_unit
of-book = tt

unfoldable of-conversions : Unit {0}
unfolding kept turned behind newest open_call convert_call rollback_call
of-conversions = tt

unfoldable of_readers : Unit {0}
unfolding bytes_written overwritten most_entries nurse_of workshop_of nurse_call workshop_call held_bytes
of_readers = tt

unfoldable of-lists : Unit {0}
unfolding or_none or_empty enters turn_unless book_turn book_run resized after_turned after_open call call_run
of-lists = tt

unfoldable of_cases : Unit {0}
unfolding refs type_field term_field var_field function_field nat_types number_terms number_functions numbers bit_types collapse discards flip units
of_cases = tt

unfoldable of-steering : Unit {0}
unfolding beside_numbers plus_kn steering unhelped unhelped_twice unmet
of-steering = tt

unfoldable rules_and_bytes : Unit {0}
unfolding of-numbers of-limits of-trees of_choices of-check of-namings of-run of-machine of_fields of_types of-layout
rules_and_bytes = tt

unfoldable calls_and_cases : Unit {0}
unfolding of_named of-terms of-tests of_values of-runs of-journal of-book of-conversions of_readers of-lists of_cases of-steering
calls_and_cases = tt

unfoldable pub computing : Unit {0}
unfolding rules_and_bytes calls_and_cases
computing = tt
