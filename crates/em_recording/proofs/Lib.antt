-- The laws of recordings, by the promises that rest on them. The folders here are the proofs of functions, by the
-- modules of src of the same names.
--
-- A record of an event has each thing before the event and after it (`record_of`):
--   1  ThingLaws: what is seen in the two states
--   2  RegisterLaws: registers, by offset; OctetLaws: octets, by address; 3 RecordLaws: these together
-- The frames that were sent and the gathered octets, step by step back (`go_back`, `until`, `frame_of`):
--   1  WireLaws; 2 GatheredLaws
-- Records rebuild each state (`records_rebuild`, `newest_records_rebuild`): RunLaws on WireLaws: call by call
-- The JSON is exact: StartLaws (`write_start`): the registers of the start
pub mod ThingLaws
pub mod RegisterLaws
pub mod OctetLaws
pub mod WireLaws
pub mod GatheredLaws
pub mod RecordLaws
pub mod RunLaws
pub mod StartLaws
