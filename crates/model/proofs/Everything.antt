-- All definitions that a computed run opens, under one name.
use Rattle.basics.specs.Choice.{when◌then◌else◌}
use Rattle.basics.specs.Range.{all_below, any_below, listed, first_not}
use Rattle.words.specs.Words.{number_of, words_of, part_at}
use Rattle.words.specs.Programming.{loses_bit, refuses, program_answer, stored, program_cells}
use Rattle.partitions.specs.Map.{rights_of, holds, number_at, nowhere, partition, partition_at, limit, in_digest, granule_at, first_word, word_count}
use Rattle.partitions.specs.Map.{kind_number}
use Rattle.partitions.specs.Map.{number_of_kind}
use Rattle.partitions.specs.Map1.{map1}
use Rattle.constants.specs.Constants.{pair_valid, valid_constants, key_of, digest_start, digest_final, raw_unlock_hash}
use Rattle.life_cycle.specs.Words.{counter_word, counter_words, has_b, state_word, state_words, same_words, encoded_by, life_cycle_of, decoded}
use Rattle.life_cycle.specs.Transitions.{is_test, is_unlocked, is_locked, test_index, table_entry}
use Rattle.model.specs.Session.{is_ready, sensed_at, sensed_locked, read_locked}
use Rattle.model.specs.Lent.{right_sizes}
use Rattle.model.specs.Acts.{effect_on, after_program, with_comparison, perform}
use Rattle.model.specs.Commands.{direct_rule, granule, stored_digest, data_words, token_kind, token_offset, scrambled, unscrambled, computed_digest, counter_at}
use Rattle.model.specs.Commands.{state_at, stored_token, hashes_to, write_act, read_act, front_read_act, digest_act, read_lock_act, move_act, transition_act}
use Rattle.model.specs.Commands.{command_act, ready_act, write_denied, read_denied, front_read_denied, digest_denied, read_value, locked_token}
use Rattle.model.specs.Commands.{token_authorization}
use Rattle.model.specs.Commands.{authorization, authorized_act}
use Rattle.model.specs.PowerUp.{sensed_digest, digests, life_cycle_end, end_of, digest_holds, first_failing, life_cycle_in, copy_word, powered_copy}
use Rattle.model.specs.PowerUp.{powered_session}
use Rattle.model.specs.PowerUp.{powered_answer, power_up_end}
use Rattle.model.specs.Step.{unchanged, performed, act, power_up, obey, step, after, answers, judgement}
use Rattle.model.proofs.JudgedOnce.{after_judged, answers_judged}

-- one name on an `unfolding` line opens the whole model
unfoldable pub everything : Unit {0}
unfolding when◌then◌else◌ all_below any_below listed first_not number_of words_of part_at loses_bit refuses program_answer stored program_cells
    rights_of holds number_at
    nowhere partition partition_at limit in_digest granule_at first_word word_count kind_number number_of_kind map1 pair_valid valid_constants
    counter_word counter_words
    has_b state_word state_words same_words encoded_by life_cycle_of decoded is_test is_unlocked is_locked test_index table_entry is_ready sensed_at
    sensed_locked read_locked
    right_sizes key_of digest_start digest_final raw_unlock_hash effect_on after_program with_comparison perform direct_rule granule stored_digest
    data_words token_kind
    token_offset write_denied read_denied front_read_denied digest_denied scrambled unscrambled read_value computed_digest counter_at state_at
    stored_token hashes_to
    write_act read_act front_read_act digest_act read_lock_act move_act locked_token token_authorization authorization authorized_act transition_act
    command_act ready_act
    sensed_digest digests life_cycle_end end_of digest_holds first_failing life_cycle_in copy_word powered_copy powered_session powered_answer
    power_up_end unchanged
    performed act power_up obey judgement step after answers after_judged answers_judged
everything = tt
