use Rattle.std.proofs.Common.{◌≡◌}
use Rattle.set_program.specs.Command.{AskForSample}
use Rattle.set_program.proofs.CommandLemmas.{one_sample}
use Rattle.set_program.proofs.program.run.Goals as goal

pub returns-in-Some-Sample-clause-sample_done : goal.returns-in-Some-Sample-clause-sample_done
returns-in-Some-Sample-clause-sample_done g c = λ lines asks done.
    let read : AskForSample c.args.words.now c.in-Some-Sample.lines = rw c.in-Some-Sample.field-0-is at c.in-Some-Sample.ensures in
    let one : lines ≡ c.in-Some-Sample.lines = one_sample c.args.words.now lines c.in-Some-Sample.lines asks read in
    rw one (c.write_summary.ensures.done done)

pub returns-in-Some-Sample-clause-sample_write_fault : goal.returns-in-Some-Sample-clause-sample_write_fault
returns-in-Some-Sample-clause-sample_write_fault g c = λ lines asks failed.
    let read : AskForSample c.args.words.now c.in-Some-Sample.lines = rw c.in-Some-Sample.field-0-is at c.in-Some-Sample.ensures in
    let one : lines ≡ c.in-Some-Sample.lines = one_sample c.args.words.now lines c.in-Some-Sample.lines asks read in
    rw one (c.write_summary.ensures.cut_short failed)
