use Rattle.em_script.proofs.CallingLemmas.{set_address}
use Rattle.em_script.proofs.calling.set_address.Goals as goal

pub returns-clause-course : goal.returns-clause-course
returns-clause-course g c = set_address c.args.driver.now.bus c.set_mac_addr.new.self.bus c.args.octets
    c.set_mac_addr.ensures.course
