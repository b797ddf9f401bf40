-- What holds of a stage holds of a value that stands for it: a box of it, or an enum of stages.
use Rattle.std.proofs.Common.{◌≡◌, ℕ, suc, ◌≤◌, Bool, true, false, List, ◌∷◌, [], length, take, drop, IfOk, sym, ◌∙◌, ap, subst}
use Rattle.std.proofs.lemmas.Result.{IfOk-weaker}
use Rattle.std.specs.declared.result.Result.{Result}
use Rattle.pipe_model.specs.declared.net.Strand.{Strand}
use Rattle.pipe_model.specs.declared.step.Out.TheVariants.{Fresh}
use Rattle.pipe_model.specs.declared.step.Seen.{Seen}
use Rattle.pipe_model.specs.declared.step.Seen.TheVariants.{Saw, Took, Put}
use Rattle.pipe_model.specs.declared.step.Want.{Want}
use Rattle.pipe_model.specs.declared.step.Want.TheVariants.{Read, Take, Write}
use Rattle.pipe_model.specs.Event.{Event}
use Rattle.stage_steps.specs.Awaits.{TakesWithout}
use Rattle.stage_steps.specs.Coroutine.{Resumes}
use Rattle.stage_steps.specs.Replies.{Replies}
use Rattle.stage_steps.specs.Showings.{IsShowing, IsCutting}
use Rattle.stage_steps.specs.declared.reply.Reply.{Reply}
use Rattle.stage_steps.specs.declared.reply.Reply.TheVariants.{Takes, Passes, Asks}

-- the value that holds a stage stands for what the stage stands for
module _ {S T : Type 0} (stands : S → Strand → List Event → Type 0) (hold : S → T) (holds : T → Strand → List Event → Type 0)
    (into : (x : S) (s : Strand) (h : List Event) → stands x s h → holds (hold x) s h) (out : (x : S) (s : Strand) (h : List Event) → holds (hold x) s h → stands x s h) where
  pub resumes_held : (x y : S) (seen : Seen) (bytes : List ℕ) (asked : Want) → Resumes stands x y seen bytes asked → Resumes holds (hold x) (hold y) seen bytes asked
  resumes_held x y seen bytes asked resumes = λ s h e told.
      let done = resumes s h e (record { stood = out x s h told.stood; answer = told.answer; seen_is = told.seen_is; bytes_are = told.bytes_are; room = told.room }) in
      (into y s (e ∷ h) done.0, done.1, done.2)

  pub replies_held : (x y : S) (bytes : List ℕ) (asked : Want) (reply : Reply) → Replies stands x y bytes asked reply → Replies holds (hold x) (hold y) bytes asked reply
  replies_held x y bytes asked Takes replies =
      (hold replies.0, resumes_held x replies.0 (Saw 0) bytes (Take 0) replies.1, resumes_held replies.0 y (Took 0) [] (Read 0) replies.2)
  replies_held x y bytes asked Passes replies = (
    resumes_held x y (Saw 0) bytes asked replies.0,
    (
      λ s h o rec is fits. let done = replies.1.0 s h o rec (out y s h is) fits in (into y s _ done.0, done.1),
      λ s h i is fits. let done = replies.1.1 s h i (out y s h is) fits in (into y s _ done.0, done.1),
    ),
  )
  replies_held x y bytes asked Asks replies = resumes_held x y (Saw 0) bytes asked replies

  -- what it answers is the stage's answer
  pub handed_on : {Err : Type 0} (self : T) (x y : S) (bytes : List ℕ) (asked : Want) (result : Result Reply Err) → self ≡ hold x → IfOk result (λ reply. Replies stands x y bytes asked reply) → IfOk result (λ reply. Replies holds self (hold y) bytes asked reply)
  handed_on self x y bytes asked result is replies = IfOk-weaker result _ _ (λ reply r. subst (λ z. Replies holds z (hold y) bytes asked reply) (sym is) (replies_held x y bytes asked reply r)) replies

  -- what it shows is what the stage shows
  pub shows_held : (showing : S → List ℕ) (showing_held : T → List ℕ) → ((x : S) → showing_held (hold x) ≡ showing x) → (self : T) (x y : S) (o : ℕ) (shown : Bool) → self ≡ hold x → IsShowing stands showing x y o shown → IsShowing holds showing_held self (hold y) o shown
  shows_held showing showing_held same self x y o true is shows = (
    subst (λ z. Resumes holds z (hold y) (Put o) [] (Write o (Fresh (showing_held (hold y))))) (sym is)
        (resumes_held x y (Put o) [] (Write o (Fresh (showing_held (hold y)))) (subst (λ rec. Resumes stands x y (Put o) [] (Write o (Fresh rec))) (sym (same y)) shows.0)),
    subst (λ rec. length rec ≤ 256) (sym (same y)) shows.1,
  )
  shows_held showing showing_held same self x y o false is shows = ap hold shows ∙ sym is

  -- what it awaits is what the stage awaits
  pub awaits_held : (self : T) (x : S) (string : List ℕ) → self ≡ hold x → TakesWithout stands x string → TakesWithout holds self string
  awaits_held self x string is takes = λ bytes without. subst (λ z. Replies holds z z bytes (Read 0) Takes) (sym is) (replies_held x x bytes (Read 0) Takes (takes bytes without))

-- what it cuts off the text ahead is what the stage cuts off
pub cuts_held : {S T : Type 0} (hold : S → T) (ahead showing : S → List ℕ) (ahead_held showing_held : T → List ℕ) → ((x : S) → ahead_held (hold x) ≡ ahead x) → ((x : S) → showing_held (hold x) ≡ showing x)
    → (self : T) (x y : S) (shown : Bool) → self ≡ hold x → IsCutting ahead showing x y shown → IsCutting ahead_held showing_held self (hold y) shown
cuts_held hold ahead showing ahead_held showing_held same_ahead same self x y true is cuts =
    let rec = showing_held (hold y) in
    let text_is : ahead_held self ≡ ahead x = ap ahead_held is ∙ same_ahead x in (
      same y ∙ cuts.0 ∙ ap (λ z. take (length z) (ahead x)) (sym (same y)) ∙ ap (take (length rec)) (sym text_is),
      same_ahead y ∙ cuts.1 ∙ ap (λ z. drop (suc (length z)) (ahead x)) (sym (same y)) ∙ ap (drop (suc (length rec))) (sym text_is),
    )
cuts_held hold ahead showing ahead_held showing_held same_ahead same self x y false is cuts = tt
