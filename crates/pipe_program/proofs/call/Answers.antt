-- The objects that are made of the streams are those that the call speaks of.
use Rattle.std.proofs.Common.{◌≡◌, ℕ, List, subst, Option, None}
use Rattle.outside.specs.Device.{Device, device}
use Rattle.outside.specs.Folder.{FolderCounts}
use Rattle.call_meaning.specs.declared.status.Status.{Status}
use Rattle.call_meaning.specs.Devices.{Outside, outside, store}
use Rattle.call_meaning.specs.Answer.{Answers}
use Rattle.pipe_program.proofs.call.Goals as goal

-- over objects that are equal to those of the streams
made_of : (words : List (List ℕ)) (input output diag : Option (List ℕ)) (source sink texts : Device) (shelf : FolderCounts) (after : Outside) (told : Device) (status : Status) →
    source ≡ device input 0 → sink ≡ device output 0 → texts ≡ device diag 0 → shelf ≡ record { faults = 0; wants = 0 } →
    Answers words (outside source sink (store None shelf.faults shelf.wants)) after texts told status →
    Answers words (outside (device input 0) (device output 0) (store None 0 0)) after (device diag 0) told status
made_of words input output diag source sink texts shelf after told status source_is sink_is texts_is shelf_is answers =
    subst (λ (x : Device). Answers words (outside x (device output 0) (store None 0 0)) after (device diag 0) told status) source_is
    (subst (λ (x : Device). Answers words (outside source x (store None 0 0)) after (device diag 0) told status) sink_is
    (subst (λ (x : Device). Answers words (outside source sink (store None 0 0)) after x told status) texts_is
    (subst (λ (x : FolderCounts). Answers words (outside source sink (store None x.faults x.wants)) after texts told status) shelf_is answers)))

pub returns : goal.returns
returns g c =
    made_of _ _ _ _ _ _ _ _ _ _ _ c.new-source.ensures c.new-sink.ensures c.new-texts.ensures c.new-shelf.ensures c.pipe_main-status.ensures.answers
