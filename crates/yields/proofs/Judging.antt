-- Answers to one question joined to an answer to another: no and yes only where the question's answer is, and never perhaps where they are exact.
use mathlib.Core.Path.{◌≡◌, refl, sym, ◌∙◌}
use mathlib.Core.Bool.{Bool, true, false, true≢false, cond, ◌&&◌, ◌||◌}
use Rattle.std.specs.Ordering.{ord_min, ord_max}
use Rattle.yields.specs.contracts.AnswerOrd.TheImpl.{cmp-value}
use package.Rattle.yields.specs.Yields.{Judges}
use Rattle.yields.specs.declared.Answer.{Answer}
use Rattle.yields.specs.declared.Answer.TheVariants.{No, Perhaps, Yes}

-- an answer that is known
pub judged-no : {exact b : Bool} → b ≡ false → Judges exact No b
judged-no e = record { never = λ _. e; surely = λ q. cc; exactly = λ x q. cc }

pub judged_yes : {exact b : Bool} → b ≡ true → Judges exact Yes b
judged_yes e = record { never = λ q. cc; surely = λ _. e; exactly = λ x q. cc }

pub judged : {exact yes b : Bool} {r : Answer} → r ≡ cond yes Yes No → yes ≡ b → Judges exact r b
judged {yes = true} e q = rw e (judged_yes (sym q))
judged {yes = false} e q = rw e (judged-no (sym q))

pub judged_as : {exact : Bool} {r : Answer} {b c : Bool} → Judges exact r b → b ≡ c → Judges exact r c
judged_as J e = record { never = λ f. sym e ∙ J.never f; surely = λ f. sym e ∙ J.surely f; exactly = J.exactly }

-- perhaps, at a glance
pub glanced : {exact b : Bool} → exact ≡ false → Judges exact Perhaps b
glanced e = record { never = λ q. cc; surely = λ q. cc; exactly = λ x q. true≢false (sym x ∙ e) }

----------------------------------------------------------------
-- Both, and either

and_no : (b c : Bool) → b ≡ false → (b && c) ≡ false
and_no b c e = rw e refl

and_never : (b c : Bool) → c ≡ false → (b && c) ≡ false
and_never true c e = e
and_never false c e = refl

or_yes : (b c : Bool) → b ≡ true → (b || c) ≡ true
or_yes b c e = rw e refl

or_surely : (b c : Bool) → c ≡ true → (b || c) ≡ true
or_surely true c e = refl
or_surely false c e = e

-- perhaps, of another question
perhaps : {exact b c : Bool} → Judges exact Perhaps b → Judges exact Perhaps c
perhaps J = record { never = λ q. cc; surely = λ q. cc; exactly = J.exactly }

-- of both the lower answer, of either the higher
pub lower : Answer → Answer → Answer
lower No r = No
lower Perhaps No = No
lower Perhaps Perhaps = Perhaps
lower Perhaps Yes = Perhaps
lower Yes r = r

pub higher : Answer → Answer → Answer
higher No r = r
higher Perhaps No = Perhaps
higher Perhaps Perhaps = Perhaps
higher Perhaps Yes = Yes
higher Yes r = Yes

-- the derived order of answers
pub min_is : (r r' : Answer) → ord_min (cmp-value).it r r' ≡ lower r r'
unfolding lower
min_is No No = refl
min_is No Perhaps = refl
min_is No Yes = refl
min_is Perhaps No = refl
min_is Perhaps Perhaps = refl
min_is Perhaps Yes = refl
min_is Yes No = refl
min_is Yes Perhaps = refl
min_is Yes Yes = refl

pub max_is : (r r' : Answer) → ord_max (cmp-value).it r r' ≡ higher r r'
unfolding higher
max_is No No = refl
max_is No Perhaps = refl
max_is No Yes = refl
max_is Perhaps No = refl
max_is Perhaps Perhaps = refl
max_is Perhaps Yes = refl
max_is Yes No = refl
max_is Yes Perhaps = refl
max_is Yes Yes = refl

pub first-no : {exact : Bool} {r : Answer} {b : Bool} → Judges exact r b → (c : Bool) → r ≡ No → Judges exact No (b && c)
first-no {b = b} J c e = judged-no (and_no b c (J.never e))

pub first_yes : {exact : Bool} {r : Answer} {b : Bool} → Judges exact r b → (c : Bool) → r ≡ Yes → Judges exact Yes (b || c)
first_yes {b = b} J c e = judged_yes (or_yes b c (J.surely e))

pub both : {exact : Bool} (r r' : Answer) (b c : Bool) → Judges exact r b → Judges exact r' c → Judges exact (lower r r') (b && c)
unfolding lower
both No r' b c J K = first-no J c refl
both Perhaps No b c J K = judged-no (and_never b c (K.never refl))
both Perhaps Perhaps b c J K = perhaps J
both Perhaps Yes b c J K = perhaps J
both Yes r' b c J K = judged_as K (sym (rw (J.surely refl) refl))

pub either : {exact : Bool} (r r' : Answer) (b c : Bool) → Judges exact r b → Judges exact r' c → Judges exact (higher r r') (b || c)
unfolding higher
either No r' b c J K = judged_as K (sym (rw (J.never refl) refl))
either Perhaps No b c J K = perhaps J
either Perhaps Perhaps b c J K = perhaps J
either Perhaps Yes b c J K = judged_yes (or_surely b c (K.surely refl))
either Yes r' b c J K = first_yes J c refl
