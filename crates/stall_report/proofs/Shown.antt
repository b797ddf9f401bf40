-- The line of what is shown of a want is that of the want: the record of a write doesn't matter.
use Rattle.std.proofs.Common.{◌≡◌, ℕ, List, sym, ◌∙◌, ap, Option, Some}
use Rattle.std.specs.Prelude.{option_map}
use Rattle.pipe_model.specs.declared.step.Out.TheVariants.{Fresh, Same}
use Rattle.pipe_model.specs.declared.step.Want.{Want as Asked}
use Rattle.pipe_model.specs.declared.step.Want.TheVariants as Ask
use Rattle.pipe_model.specs.Event.{Event, Want}
use Rattle.pipe_model.specs.State.{Who}
use Rattle.stage_steps.specs.Coroutine.{last_seen, meaning}
use Rattle.core_machine.specs.Answered.{Shows}
use Rattle.stall_report.specs.Waits.{wait_line, waited}
use Rattle.stall_report.specs.declared.lines.WaitLine.{WaitLine}
use Rattle.stall_report.specs.declared.lines.WaitWant.{WaitWant}

shown_waits : (h : List Event) (asked : Asked) (want : Want) → Shows h asked want → waited (meaning asked (last_seen h)) ≡ waited want
shown_waits h (Ask.Write o (Fresh rec)) want shows = ap waited (sym shows.1.1)
shown_waits h (Ask.Write o (Same i)) want shows = ap waited (sym shows)
shown_waits h (Ask.Commit level) want shows = ap waited (sym shows)
shown_waits h (Ask.Read i) want shows = ap waited (sym shows)
shown_waits h Ask.Any want shows = ap waited (sym shows)
shown_waits h Ask.Gate want shows = ap waited (sym shows)
shown_waits h (Ask.Take i) want shows = ap waited (sym shows)
shown_waits h Ask.Primed want shows = ap waited (sym shows)
shown_waits h (Ask.Issue text) want shows = ap waited (sym shows)
shown_waits h (Ask.Join k) want shows = ap waited (sym shows)
shown_waits h (Ask.Cut s) want shows = ap waited (sym shows)
shown_waits h (Ask.Done code) want shows = ap waited (sym shows)

abbrev pub line : Who → WaitWant → WaitLine
line s want = record { strand = s; want = want }

pub line_shown : (h : List Event) (asked : Asked) (want : Want) → Shows h asked want → (s : Who) (wanted : Option Want) → wanted ≡ Some want → (found : Option WaitWant) → ((sight : ℕ → List ℕ) → found ≡ waited (meaning asked sight))
    → option_map (line s) found ≡ wait_line (s, wanted)
line_shown h asked want shows s wanted is found finds = ap (option_map (line s)) (finds (last_seen h) ∙ shown_waits h asked want shows) ∙ ap (λ o. wait_line (s, o)) (sym is)
