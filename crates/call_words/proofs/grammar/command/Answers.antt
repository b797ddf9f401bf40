use Rattle.std.proofs.Common.{◌≡◌, ◌∙◌, ap, ap₂, codes, true}
use Rattle.clap.specs.Words.{app_of, new_app, with_rule}
use Rattle.clap.specs.Simple.{Shape, app_of_fields, on_top}
use Rattle.call_words.proofs.grammar.command.Goals as goal

pub returns : goal.returns
returns c =
    let helpless : app_of c.disable_help_flag.result ≡ on_top (λ s. record s { disable_help_flag = true }) (new_app (codes "pipe")) =
    ap app_of_fields c.disable_help_flag.ensures ∙ ap (on_top (λ (s : Shape). record s { disable_help_flag = true })) c.new.ensures.app in
    let bare : app_of c.no_binary_name-bare.result ≡ on_top (λ s. record s { no_binary_name = true }) (on_top (λ s. record s { disable_help_flag = true }) (new_app (codes "pipe"))) =
    ap app_of_fields c.no_binary_name-bare.ensures ∙ ap (on_top (λ (s : Shape). record s { no_binary_name = true })) helpless in
    let spec = c.in_ok-spec.ensures.shape c.new-2.ensures.optional.1 ∙ ap₂ with_rule bare c.new-2.ensures.rule in
    let workers = c.in_ok-workers.ensures.shape c.option.ensures.own ∙ ap₂ with_rule spec c.option.ensures.rule in
    let steps = c.in_ok-steps.ensures.shape c.option-2.ensures.own ∙ ap₂ with_rule workers c.option-2.ensures.rule in
    let trace = c.in_ok-trace.ensures.shape c.option-3.ensures.own ∙ ap₂ with_rule steps c.option-3.ensures.rule in
    let check = c.in_ok-check.ensures.shape c.option-4.ensures.own ∙ ap₂ with_rule trace c.option-4.ensures.rule in
    let sample = c.in_ok-sample.ensures.shape c.option-5.ensures.own ∙ ap₂ with_rule check c.option-5.ensures.rule in
    let sets = c.in_ok-sets.ensures.shape c.option-6.ensures.own ∙ ap₂ with_rule sample c.option-6.ensures.rule in
    c.in_ok-arg.ensures.shape c.flag.ensures.own ∙ ap₂ with_rule sets c.flag.ensures.rule
