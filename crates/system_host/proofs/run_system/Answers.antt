use Rattle.system_host.proofs.run_system.Goals as goal

pub returns : goal.returns
returns g c = (_, c.put_and_end-ended.ensures)
