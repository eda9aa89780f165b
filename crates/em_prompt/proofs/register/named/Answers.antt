use Rattle.em_prompt.proofs.RegisterLaws.{named_is}
use Rattle.em_prompt.proofs.register.named.Goals as goal

pub returns : goal.returns
returns c = named_is c.args.profile c.args.word.now c.parse_in.result c.parse_in.ensures.some c.parse_in.ensures.every
