-- All promises of demands 1 and 3 and of the making of a unit, each from the file that proves it.
use Rattle.rules.proofs.Promises.{Promises}
use Rattle.rules.proofs.Demand1.InOrder.{answered_in_order}
use Rattle.rules.proofs.Demand1.Ended.{numbers_of_steps, numbered, bare-refusals, memory-untouched, length_kept, refused-unchanged, unpaged-refusal, paged_refusal, as_for_nine}
use Rattle.rules.proofs.Demand1.Reasons.{two-reasons}
use Rattle.rules.proofs.Demand1.Bits.{eighteen_bits}
use Rattle.rules.proofs.Demand1.Kept.{step4_leaves, step6_leaves}
use Rattle.rules.proofs.Demand1.Interrupts.{interrupt_leaves, trap_leaves, exec_trap_unchanged, other_trap_unchanged, init_leaves}
use Rattle.rules.proofs.Demand1.CellStores.{reload_empties, pad_store_takes}
use Rattle.rules.proofs.Sizes.{made_or_refused, cell_by_counter, size-stays, absent-unseen}
use Rattle.rules.proofs.Demand3.Wellformed.{always_fit}
use Rattle.rules.proofs.Laws.Pages.{exec_zero_uncelled}
use Rattle.rules.proofs.Demand3.SameRun.{cells_true_throughout, same_as_plain}

pub promises : Promises
promises =
    record {
      answered_in_order = answered_in_order;
      numbers_of_steps = numbers_of_steps;
      numbered = numbered;
      bare-refusals = bare-refusals;
      two-reasons = two-reasons;
      eighteen_bits = eighteen_bits;
      memory-untouched = memory-untouched;
      length_kept = length_kept;
      refused-unchanged = refused-unchanged;
      unpaged-refusal = unpaged-refusal;
      paged_refusal = paged_refusal;
      as_for_nine = as_for_nine;
      step4_leaves = step4_leaves;
      step6_leaves = step6_leaves;
      interrupt_leaves = interrupt_leaves;
      trap_leaves = trap_leaves;
      exec_trap_unchanged = exec_trap_unchanged;
      other_trap_unchanged = other_trap_unchanged;
      init_leaves = init_leaves;
      reload_empties = reload_empties;
      pad_store_takes = pad_store_takes;
      made_or_refused = made_or_refused;
      cell_by_counter = cell_by_counter;
      size-stays = size-stays;
      absent-unseen = absent-unseen;
      always_fit = always_fit;
      exec_zero_uncelled = exec_zero_uncelled;
      cells_true_throughout = cells_true_throughout;
      same_as_plain = same_as_plain;
    }
