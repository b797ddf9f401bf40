-- The wait lines of a net that stalls, computed.
use Rattle.std.proofs.Common.{◌≡◌, [], ◌∷◌, ◌++◌, refl, codes, negsuc}
use Rattle.std.specs.Fmt.{digits}
use Rattle.pipe_model.specs.Play.{play}
use Rattle.pipe_model.specs.Reply.{reply}
use Rattle.confluence_laws.specs.Examples.{entries, lf, stalling, stalling_steps}
use Rattle.stall_report.specs.Waits.{wait_lines}
use Rattle.stall_report.specs.Words.{wait_text, want_words}
use Rattle.stall_report.specs.declared.lines.WaitWant.TheVariants as For

-- FANIN waits for its first input
fanin_waits : wait_text stalling (record { strand = 2; want = For.Read 0 } ∷ []) ≡ codes "wait 2 fanin read 0" ++ lf
unfolding digits
fanin_waits = refl

-- (endchar ?) console | a: fanout | b: fanin | console ? a: | b:
all_wait : wait_text stalling (wait_lines (reply stalling (play stalling (entries stalling_steps))).waits)
    ≡ codes "wait 0 console write 0" ++ lf ++ codes "wait 1 fanout write 1" ++ lf ++ codes "wait 2 fanin read 0" ++ lf ++ codes "wait 3 console read 0" ++ lf
unfolding digits
all_wait = refl

a_level : want_words (For.Commit (negsuc 0)) ≡ codes "commit -1"
unfolding digits
a_level = refl

a_unit : want_words (For.Join 4294967295) ≡ codes "join 4294967295"
unfolding digits
a_unit = refl
