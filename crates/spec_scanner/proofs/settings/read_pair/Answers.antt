use Rattle.spec_scanner.specs.OptionWords.{pair_of}
use Rattle.spec_scanner.proofs.Settling.{read_more, word_faults_are}
use Rattle.spec_scanner.proofs.settings.read_pair.Goals as goal

pub returns : goal.returns
returns c = λ pairs read.
    let pair = pair_of c.args.word c.args.value in
    let option = c.named_option-name.result in
    let option_is = c.named_option-name.ensures in
    let of_word = word_faults_are c.args.close pairs pair c.args.read read option option_is c.is_fresh.result _ c.is_fresh.ensures c.word_fault-of_word.ensures in
    read_more c.args.close pairs pair c.args.read read option option_is _ _ c.least_also.result c.least_also-2.result c.settle.result c.choice_at.result of_word c.value_fault-of_value.ensures c.choice_at.ensures c.settle.ensures
    c.least_also.ensures c.least_also-2.ensures
