-- What a proof by computation opens, in groups: to open one of these names is to open every definition on its line.
use Rattle.item.specs.Counter.{same_incarnation, same_attempt, index_below, index_at_largest, next_index, incarnation_at_largest, next_incarnation, attempt_at_largest, next_attempt, earlier}
use Rattle.item.specs.Item.{tags_agree, ranks_below, same_item}
use Rattle.item.specs.Row.{same_row}
use Rattle.message.specs.Rows.{rows_held, padded, held_rows}
use Rattle.record.specs.Kind.{kind_of, other_of, attempt_of, item_of, fields_of}
use Rattle.store.specs.Change.{count_outgoing}
use Rattle.protocol.specs.Answer.{refused, ok}
use Rattle.protocol.specs.Deliver.{on_message, deliver_step}
use Rattle.protocol.specs.Fetching.{on_fetch, none_counted, with_table, has_conflict, stopped, written_back, recovered, node_recover, table_counted, on_table}
use Rattle.protocol.specs.Merge.{merge_row, merge_rows, lowest_marked}
use Rattle.protocol.specs.Network.{packet_of, packets_of, network_after, fresh_network}
use Rattle.protocol.specs.Node.{half, row_of, own_item, peer_of, count_peers, blank_node, crashed, started, storing_begun, with_row, with_counted, confirming_begun, write_ended, with_rows, fresh_node, row_items}
use Rattle.protocol.specs.Outgoing.{message_to, outgoing_to, outgoing_from, outgoing}
use Rattle.protocol.specs.Phase.{at_stage}
use Rattle.protocol.specs.Sound.{every_from, row_use, row_fits, row_sound, peer_sound, stage_counts, phase_counts, attempt_fits, among_asked, counted_asked, rows_sound, peers_sound, sound_node}
use Rattle.protocol.specs.Storing.{store_verdict, reply_store, on_store, own_write, is_counted, send_confirm, stored_counted, on_stored, stored_under, on_confirm, asked_under, end_answer, store_success, confirmed_counted, on_confirmed}
use Rattle.protocol.specs.Table.{node_at, sound_table, fresh_nodes, fresh_table}
use Rattle.protocol.specs.Write.{send_store, send_fetch, next_item, write_at_largest, written, write_step, crash_step, start_step}
use Rattle.examples.specs.Said.{said}
use Rattle.examples.proofs.Fits.{item_fits, items_fit, fields_fit, fits}
use Rattle.examples.proofs.Contents.{found, beside, packets_put, all_fit}
use Rattle.examples.proofs.Trace.{after_step, after_call, after_delivery, after_event, after, trace}

-- ---- one node

-- the node of set-up, and the fields of any
unfoldable fields : Unit {0}
unfolding fresh_node blank_node write_ended row_of own_item peer_of count_peers half same_incarnation same_attempt same_item tags_agree ranks_below index_below ok refused
fields = tt

-- Write, Crash and Start
unfoldable pub calling : Unit {0}
unfolding fields write_step write_at_largest index_at_largest attempt_at_largest send_store written storing_begun next_attempt next_item next_index crash_step start_step crashed started incarnation_at_largest next_incarnation send_fetch
calling = tt

-- Store and Stored
unfoldable pub storing : Unit {0}
unfolding fields deliver_step on_message on_store store_verdict earlier reply_store with_row on_stored own_write is_counted stored_counted with_counted send_confirm confirming_begun at_stage
storing = tt

-- Confirm and Confirmed
unfoldable pub confirming : Unit {0}
unfolding fields deliver_step on_message on_confirm stored_under on_confirmed own_write asked_under is_counted with_counted confirmed_counted store_success end_answer
confirming = tt

-- Fetch and Table
unfoldable pub fetching : Unit {0}
unfolding fields deliver_step on_message on_fetch on_table is_counted none_counted with_table with_rows with_counted merge_rows merge_row has_conflict lowest_marked stopped crashed recovered node_recover table_counted written_back storing_begun send_store
fetching = tt

-- ---- table and messages

unfoldable table_soundness : Unit {0}
unfolding fields sound_table fresh_table fresh_nodes every_from sound_node attempt_fits rows_sound row_use row_fits row_sound same_row peers_sound peer_sound phase_counts stage_counts counted_asked among_asked
table_soundness = tt

-- what is sent, with the rows beside it, and the network after it
unfoldable pub sending : Unit {0}
unfolding fields outgoing outgoing_from outgoing_to message_to peer_of row_items held_rows rows_held padded fresh_network fresh_table fresh_nodes node_at network_after packets_of packet_of
sending = tt

-- that it is put into the store, and fits
unfoldable putting : Unit {0}
unfolding sending count_outgoing packets_put all_fit fits fields_fit items_fit item_fits fields_of kind_of other_of attempt_of item_of
putting = tt

-- ---- the calls of a drill, one after the other

unfoldable pub following : Unit {0}
unfolding calling storing confirming fetching table_soundness putting trace after after_event after_call after_delivery after_step found beside said
following = tt
