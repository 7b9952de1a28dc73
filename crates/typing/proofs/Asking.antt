-- What a function of typing asks for, put together where it is called.
use Prim.Native.Nat.{ℕ, ◌+◌, ◌≤◌, ◌<◌}
use native.Mathlib.Omega.{arith}
use mathlib.Core.List.{List}
use lib.ListN.{length}
use package.Rattle.rules.specs.Limits.{max_variables, max_terms}
use package.Rattle.rules.specs.Term.{Term, var, tunit, tinl, tinr, tpair, tlet, tletp, tcase, tcall, troll, tunroll}
use package.Rattle.calls.specs.Fields.{kind_at}
use package.Rattle.program.specs.Parts.{first, second, third}
use package.Rattle.program.specs.Signatures.{SignaturesAre}
use package.Rattle.program.specs.Kinds.{inl_kind, inr_kind, case_kind}
use package.Rattle.types.specs.declared.codes.Code.{Code}
use package.Rattle.types.specs.Codes.{Known}
use package.Rattle.varsets.specs.declared.Uses.{Uses}
use package.Rattle.typing.specs.Contexts.{UsedBy}
use package.Rattle.typing.specs.Sizes.{terms_in, terms_in_all}
use package.Rattle.typing.specs.Waiting.{count_in}
use package.Rattle.typing.specs.Ready.{term_in, terms_from, Ready, Here, Calls}
use package.Rattle.typing.specs.Asked.{ReadyFor, ReadyAt, ReadyInject, ReadyBranches, ReadyArguments}
use Rattle.typing.specs.declared.outcomes.Scope.{Scope}

some_terms : (t : Term) → 1 ≤ terms_in t
unfolding terms_in
some_terms (var k i) = omega arith
some_terms (tunit k) = omega arith
some_terms (tinl k c e) = omega arith
some_terms (tinr k c e) = omega arith
some_terms (tpair k e e') = omega arith
some_terms (tlet k e b) = omega arith
some_terms (tletp k e b) = omega arith
some_terms (tcase k e b b') = omega arith
some_terms (tcall k g ts e) = omega arith
some_terms (troll k c e) = omega arith
some_terms (tunroll k c e) = omega arith

module _ {p types terms functions : List ℕ} {table : List (List ℕ)} {nodes heap vars : List ℕ} {sc : Scope} {top t : ℕ} where
  -- one naming more has room
  pub one-waits : ReadyFor p types terms functions table nodes heap vars sc top t → count_in vars < max_terms
  one-waits R = omega (arith, R.ready.waiting, some_terms (term_in p types terms t))

  -- by kind, from the same term
  pub ready_at : {at kind : ℕ} → ReadyFor p types terms functions table nodes heap vars sc top t → Here p terms t at kind
      → ReadyAt p types terms functions table nodes heap vars sc top t at kind
  ready_at R H = record { ready = R.ready; signed = R.signed; here = H }

  pub ready_inject : {at : ℕ} → ReadyFor p types terms functions table nodes heap vars sc top t
      → Here p terms t at (kind_at p at) × (inl_kind ≤ kind_at p at) × (kind_at p at ≤ inr_kind)
      → ReadyInject p types terms functions table nodes heap vars sc top t at
  ready_inject R (H, least, most) = record { ready = R.ready; signed = R.signed; here = H; least = least; most = most }

  -- of another term, branches or arguments, with the table of the whole
  module _ (S : SignaturesAre p functions table) where
    pub ready_for : Ready (terms_in (term_in p types terms t)) p types terms functions nodes heap vars sc top → t < length terms
        → ReadyFor p types terms functions table nodes heap vars sc top t
    ready_for rd there = record { ready = rd; signed = S; there = there }

    pub ready_branches : {at : ℕ} {u : Uses} {c d : Code}
        → Ready (terms_in (term_in p types terms (second p at)) + terms_in (term_in p types terms (third p at)))
        p types terms functions nodes heap vars sc top
        → Here p terms t at case_kind → sc.n < max_variables → Known (length types) top c → Known (length types) top d
        → UsedBy u (term_in p types terms (first p at)) → ReadyBranches p types terms functions table nodes heap vars sc top t at u c d
    ready_branches rd H free K K' used =
        record { ready = rd; signed = S; here = H; free = free; left = K; right = K'; used = used }

    pub ready-arguments : {at g k count : ℕ}
        → Ready (terms_in_all (terms_from p types terms at k count)) p types terms functions nodes heap vars sc top
        → Calls p terms functions t at g k count → ReadyArguments p types terms functions table nodes heap vars sc top t at g k count
    ready-arguments rd C = record { ready = rd; signed = S; calls = C }
