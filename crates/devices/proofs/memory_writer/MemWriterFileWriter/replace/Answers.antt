use Rattle.devices.proofs.Holding.{wrote}
use Rattle.devices.proofs.memory_writer.MemWriterFileWriter.replace.Goals as goal

pub returns-in-Ok-clause-written : goal.returns-in-Ok-clause-written
returns-in-Ok-clause-written c =
    wrote c.args.self.now.files c.fails_now.new.self.files c.add.new.self.files c.args.name.now c.args.bytes.now c.fails_now.ensures.files c.in-Ok.ensures.written
