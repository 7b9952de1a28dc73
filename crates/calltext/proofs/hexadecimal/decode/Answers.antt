use Rattle.std.proofs.Common.{◌∙◌, arith}
use Rattle.calltext.proofs.Digits.{empty_word, sign_word, longer_word}
use Rattle.calltext.proofs.hexadecimal.decode.Goals as goal

pub returns-in-empty : goal.returns-in-empty
returns-in-empty c = empty_word _ _ c.in-empty.len_below

pub returns-in-len1 : goal.returns-in-len1
returns-in-len1 c = sign_word _ _ (omega (arith, c.in-len1.len_at_least, c.in-len1.len_below)) c.then_some.ensures

pub returns-in_default : goal.returns-in_default
returns-in_default c =
    record { said = c.pairs.ensures.said ∙ longer_word _ (omega (arith, c.in_default.len_at_least)); within = c.pairs.ensures.within; left = c.pairs.ensures.left }
