use Rattle.std.proofs.Common.{◌∙◌, ◌∷◌, sym, ap, arith}
use Rattle.std.proofs.lemmas.List.{take_all, length-drop}
use Rattle.std.specs.Prelude.{option_map}
use Rattle.specs_stage.proofs.HexSteps.{no_bytes, byte_more}
use Rattle.specs_stage.proofs.hex_digits.add_from_hex.Goals as goal

pub returns-in-None : goal.returns-in-None
returns-in-None c = sym c.loop-rest.invariant ∙ no_bytes c.loop-rest.bytes.items c.loop-rest.rest.now c.in-len2-up.len_at_least (λ rest. c.byte_of.ensures rest ∙ ap (option_map (λ byte. byte ∷ rest)) c.in-None.is)

pub loop-rest-preserved : goal.loop-rest-preserved
loop-rest-preserved c = byte_more c.loop-rest.bytes.items c.loop-rest.rest.now _ _ c.in-Some.byte c.in-len2-up.len_at_least (take_all _ _ (omega (arith, length-drop 2 c.loop-rest.rest.now))) c.in_ok-push-in-Some.ensures.items
    (λ rest. c.byte_of.ensures rest ∙ ap (option_map (λ byte. byte ∷ rest)) c.in-Some.is) ∙ c.loop-rest.invariant
