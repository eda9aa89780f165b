-- What the words of a line are.
use Rattle.std.specs.Prelude.{ℕ, List, codes}
use Rattle.em_prompt.specs.declared.number.Number.TheVariants as number
use Rattle.em_prompt.specs.declared.kind.Choice.TheVariants.{Way, Side, More, Until, Changes, Switch, Matter}
use Rattle.em_prompt.specs.declared.kind.Kind.{Kind}
use Rattle.em_prompt.specs.declared.kind.Kind.TheVariants as kind

-- what a word is called
abbrev pub called : Kind → List ℕ
called kind.Register = codes "OFF"
called kind.Known = codes "a register"
called kind.Target = codes "a register or ADDR"
called kind.Value = codes "VAL"
called kind.Address = codes "ADDR"
called kind.Data = codes "DATA"
called kind.Ethernet = codes "DATA"
called kind.FrameLen = codes "LEN"
called kind.Turn = codes "a turn"
called kind.Watch = codes "WATCH"
called kind.File = codes "FILE"
called kind.Name = codes "NAME"
called kind.LastLine = codes "LAST"
called (kind.Number number.Peeked) = codes "LEN"
called (kind.Number number.Watched) = codes "LEN"
called (kind.Number number.Packets) = codes "N"
called (kind.Number number.Count) = codes "a count"
called (kind.Number number.Line) = codes "a line"
called (kind.Number number.Event) = codes "an event"
called (kind.Number number.Index) = codes "I"
called (kind.Number number.Word) = codes "a word of the PHY"
called (kind.Choice Way) = codes "up or down"
called (kind.Choice Side) = codes "rx or tx"
called (kind.Choice More) = codes "again or all"
called (kind.Choice Until) = codes "until"
called (kind.Choice Changes) = codes "changes"
called (kind.Choice Switch) = codes "on or off"
called (kind.Choice Matter) = codes "rx, tx, line, dropped or LINE"

-- what is said of it, behind that, where a word is none
abbrev pub rule : Kind → List ℕ
rule kind.Name = codes " begins with a letter"
rule kind.Value = codes " is 1 to 8 hexadecimal digits, or names of bits"
rule kind.Address = codes " is 1 to 16 hexadecimal digits"
rule kind.Data = codes " is octets, of two hexadecimal digits each"
rule kind.Ethernet = codes " is 6 octets"
rule kind.FrameLen = codes " is at most 32768, and not below DATA's octets"
rule kind.LastLine = codes " is at most 9999999, and not below LINE"
rule kind.Turn = codes " is rx, tx, ., arrive:DATA or arrive:DATA:LEN"
rule (kind.Number number.Peeked) = codes " is 1 to 16384"
rule (kind.Number number.Watched) = codes " is 1 to 16"
rule (kind.Number number.Packets) = codes " is 0 to 1024"
rule (kind.Number number.Count) = codes " is wanted, of 1 to 65536"
rule (kind.Number number.Line) = codes " is wanted, of 1 to 9999999"
rule (kind.Number number.Event) = codes " is wanted, of 0 to 9999999"
rule (kind.Number number.Index) = codes " is 0 to 9999999"
rule (kind.Number number.Word) = codes " is wanted, of 0 to 31"
rule _ = codes " is wanted"
