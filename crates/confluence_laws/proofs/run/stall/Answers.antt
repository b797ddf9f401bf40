use Rattle.pipe_model.specs.Play.{play}
use Rattle.confluence_laws.proofs.WaitLines.{lines_are, waits_want, unended_some, some_unended, code_is, none_ended, none_where}
use Rattle.confluence_laws.proofs.run.stall.Goals as goal

pub returns : goal.returns
returns c =
    let net = c.args.net.now in
    let st = play net c.args.dispatch.now in
    let complete = c.requires.complete in
    record {
      lines = lines_are net st;
      wants = waits_want net c.requires.formed c.args.dispatch.now c.requires.legal;
      stalled = (λ stalled. unended_some net st stalled.1, λ some. (complete, some_unended net st some));
      code = λ stalled. code_is net st (unended_some net st stalled.1);
      unstalled = λ not_stalled.
          let none = none_where net st (λ unended. not_stalled (complete, unended)) in
          (none_ended net st none, none);
    }
