use Rattle.std.proofs.Common.{◌≡◌, ◌*◌, ◌≤◌, sum, take}
use Rattle.em_eeprom.proofs.eeprom.Eeprom.checksum_ok.Given as goal

abbrev pub invariant-loop-word : goal.invariant-loop-word
invariant-loop-word l = record {
  total : l.sum ≡ sum (take l.word-index l.words);
  small : l.sum ≤ 65535 * l.word-index;
}
