use Rattle.em_regs.proofs.ProfileLaws.{table_is_list, reg_of-offset_of}
use Rattle.em_regs.proofs.laws.profiles_are_lists.Goals as goal

pub returns-clause-table : goal.returns-clause-table
returns-clause-table c = table_is_list

pub returns-clause-found : goal.returns-clause-found
returns-clause-found c = λ p reg h. reg_of-offset_of p reg h.0 h.1
