-- All rules opened at once, for the proofs that compute: `unfolding opened` unfolds each of them.
use Prim.Native.Nat.{ℕ}
use Rattle.rules.specs.Choice.{pick}
use Rattle.rules.specs.Memory.{good_length, byte_at, word_at, even_of, store_word, store_byte}
use Rattle.rules.specs.Unit.{count_of, size_of, there, empty_cell, emptied, clear_ktcs, clear_fetch, with_ktcs, with_kept, with_fetch, init_core, zero_unit}
use Rattle.rules.specs.Status.{bit_of, bit_in, packed, unpacked, with_modes, with_states, with_flags, flags_clear, fcn_stored, ktcs_stored}
use Rattle.rules.specs.Registers.{found_from, among, words_from, registers, register_of, place_in, place_found, place_of, part_of, merged, operating_word, peeked, cell_stored, pad_stored}
use Rattle.rules.specs.Maps.{unpaged, unpaged_at, low9, high7, page_of, physical_at, resident_bit, public_bit, write_bit, simple, upper_at, lower_at, pointed_at, unless_off, word_walk, followed, pointer_walk, exec_walk, user_walk, walk_of, reads_of, entry_of, exec_zero, exec_zero_entry, walked, tag_of, tag_in, cell_of, stepped, filled, filled_by, missed, sought_in, looked, holds, cell_forgotten, forgotten}
use Rattle.rules.specs.Fetched.{is_fetch, is_dato, between, kind_of, one_more, counted, normal, destination_only, source_by, destination_by, source_set, destination_set, states_marked, instruction_noted, marked, noted, after_fetch}
use Rattle.rules.specs.Steps.{listed, word_dati, ill_fitting, well_shaped, service_dato, start_read, due_when, due_of, odd_word, keys_of, judged, watches, public_page, guarded, forbidden_by, forbidden}
use Rattle.rules.specs.Sequences.{service_awaited, flagged, start_ended, data_lines, fault_data, address_kept, lines_kept, violated, timed_out, status_stored, program_counter_stored, first_read_done, user_started, interrupted, is_trap, trap_twice, trap_taken, trapped, vector_listed, idle}
use Rattle.rules.specs.Program.{run, plain_run}
use Rattle.rules.specs.Order.{outcome, refused, faulted, outer_fault, source_in, source_at, read_from, read_at, word_from, word_read, core_stored, operating_effect, associative_effect, memory_effect, stored_in, stored_at, transferred, fetched, flag_after, word_judged, unpaged_reached, unpaged_time_out, unpaged_target, unpaged_from, window_addr, inner_fault, inner_target, inner_ruled, windowed, paged_reached, outer_target, outer_ruled, paged_from, sequenced, after_wait, accessed}
use Rattle.rules.specs.Calls.{interrupt_of, trap_of, init_of, called, maps_after, cells_after, memory_after, settled, call_of, fresh}
use Rattle.rules.specs.Answers.{shown_as, fault_shown, shown, making_shown}
use Rattle.rules.specs.Tools.{map_page}
use Rattle.rules.specs.Runs.{seen_in, seen_along, station_after, unit_after, plain_of, plain_decision, plain_settled, plain_call, plain_in, plain_along, visit, visits_of, peeks, stores_pad, deed_in, deed_of, none_in_use, used_by, told, in_use_after, struck, history_after, heard, is_outdated, none_outdated, allowed, meets, history_of}

unfoldable pub opened : ℕ
unfolding pick good_length byte_at word_at even_of store_word store_byte count_of size_of there empty_cell emptied clear_ktcs clear_fetch with_ktcs with_kept with_fetch init_core zero_unit bit_of bit_in packed unpacked with_modes with_states with_flags flags_clear fcn_stored ktcs_stored found_from among words_from registers register_of place_in place_found place_of part_of merged operating_word peeked cell_stored pad_stored unpaged unpaged_at low9 high7 page_of physical_at resident_bit public_bit write_bit simple upper_at lower_at pointed_at unless_off word_walk followed pointer_walk exec_walk user_walk walk_of reads_of entry_of exec_zero exec_zero_entry walked tag_of tag_in cell_of stepped filled filled_by missed sought_in looked holds cell_forgotten forgotten is_fetch is_dato between kind_of one_more counted normal destination_only source_by destination_by source_set destination_set states_marked instruction_noted marked noted after_fetch listed word_dati ill_fitting well_shaped service_dato start_read due_when due_of odd_word keys_of judged watches public_page guarded forbidden_by forbidden service_awaited flagged start_ended data_lines fault_data address_kept lines_kept violated timed_out status_stored program_counter_stored first_read_done user_started interrupted is_trap trap_twice trap_taken trapped vector_listed idle run plain_run outcome refused faulted outer_fault source_in source_at read_from read_at word_from word_read core_stored operating_effect associative_effect memory_effect stored_in stored_at transferred fetched flag_after word_judged unpaged_reached unpaged_time_out unpaged_target unpaged_from window_addr inner_fault inner_target inner_ruled windowed paged_reached outer_target outer_ruled paged_from sequenced after_wait accessed interrupt_of trap_of init_of called maps_after cells_after memory_after settled call_of fresh shown_as fault_shown shown making_shown map_page seen_in seen_along station_after unit_after plain_of plain_decision plain_settled plain_call plain_in plain_along visit visits_of peeks stores_pad deed_in deed_of none_in_use used_by told in_use_after struck history_after heard is_outdated none_outdated allowed meets history_of
opened = 0
