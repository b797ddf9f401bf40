use Rattle.outside.specs.Device.{device}
use Rattle.call_meaning.specs.Devices.{store}
use Rattle.call_streams.proofs.CheckReplies.{checks_no_memory, checks_unfed, decides_checked, decides_unfound}
use Rattle.pipe_cli.proofs.check_call.check_call.Goals as goal

pub returns-in-Err-clause-decides : goal.returns-in-Err-clause-decides
returns-in-Err-clause-decides g c words checks =
    decides_unfound words c.args.net c.args.name checks (device _ _) (device _ _) (store _ _ _) (store _ _ _) c.in-Err.told.outcome c.in-Err.ensures.journal

pub returns-in-Err-feed_net-clause-decides : goal.returns-in-Err-feed_net-clause-decides
returns-in-Err-feed_net-clause-decides g c words checks =
    checks_unfed words c.args.net c.args.name checks (device _ _) (device _ _) (store _ _ _) (store _ _ _) c.in-Ok.stored.found.items c.in-Ok.stored.journal c.in-Ok.ensures.journal
    (device _ _) (store _ _ _) c.in-Err-feed_net.told.outcome (c.in-Err-feed_net.ensures.fed (device _ _))

pub returns-in-Ok-judged-clause-decides : goal.returns-in-Ok-judged-clause-decides
returns-in-Ok-judged-clause-decides g c words checks =
    decides_checked words c.args.net c.args.name checks (device _ _) (device _ _) (store _ _ _) (store _ _ _) c.in-Ok.stored.found.items c.in-Ok.stored.journal c.in-Ok.ensures.journal
    (device _ _) (store _ _ _) c.in-Ok-feed_net.net (c.in-Ok-feed_net.ensures.fed (device _ _)) c.in-Ok-judged.answer.told.outcome c.in-Ok-judged.answer.text.items c.in-Ok-judged.ensures.means
    (device _ _) c.give.result.outcome c.give.ensures.gives

pub returns-clause-decides : goal.returns-clause-decides
returns-clause-decides g c words checks =
    checks_no_memory words c.args.net c.args.name checks (device _ _) (device _ _) (store _ _ _) (store _ _ _) c.in-Ok.stored.found.items c.in-Ok.stored.journal c.in-Ok.ensures.journal
    (device _ _) (store _ _ _) c.in-Ok-feed_net.net (c.in-Ok-feed_net.ensures.fed (device _ _)) c.no_memory.result.outcome c.no_memory.ensures.outcome
