-- What a field says of its entry, and the trees of entries (section 1). An entry names lower entries, so its tree is found by
-- recursion on a bound of its number; a reference that is absent is refused before any tree is asked for (Named).
use Rattle.std.specs.Prelude.{ℕ, zero, suc, ◌+◌, ◌*◌, ◌-◌, ◌/◌, List, [], ◌∷◌, map, get_or}
use package.Rattle.octets.specs.Numbers.{get16}
use package.Rattle.rules.specs.Ty.{Ty, one, prod, sum, mu, tyvar}
use package.Rattle.rules.specs.Term.{Term, Terms, var, tunit, tinl, tinr, tpair, tlet, tletp, tcase, tcall, troll, tunroll, end, more, Fun, Program}
use package.Rattle.calls.specs.Fields.{Layout, kind_at, length_at, parameters_at}

-- references of two bytes, `n` of them from place `i`
unfoldable pub references : List ℕ → ℕ → ℕ → List ℕ
references xs i zero = []
references xs i (suc n) = get16 xs i ∷ references xs (i + 2) n

----------------------------------------------------------------
-- Types

pub data TypeEntry : Type 0 where
  y_unit : TypeEntry
  y_prod y_sum : ℕ → ℕ → TypeEntry
  y_mu : ℕ → TypeEntry
  y_var : ℕ → TypeEntry

-- by kind, with the two references and the byte that may follow it
unfoldable pub type_of_kind : ℕ → ℕ → ℕ → ℕ → TypeEntry
type_of_kind kind a b n = get_or (y_unit ∷ y_prod a b ∷ y_sum a b ∷ y_mu a ∷ []) kind (y_var n)

-- the type entry whose field is at `at`
unfoldable pub type_at : List ℕ → ℕ → TypeEntry
type_at xs at = type_of_kind (kind_at xs at) (get16 xs (at + 4)) (get16 xs (at + 6)) (get_or xs (at + 4) 0)

-- the tree of an entry, the trees of lower entries given by `go`
unfoldable pub type_tree : (ℕ → Ty) → TypeEntry → Ty
type_tree go y_unit = one
type_tree go (y_prod a b) = prod (go a) (go b)
type_tree go (y_sum a b) = sum (go a) (go b)
type_tree go (y_mu a) = mu (go a)
type_tree go (y_var k) = tyvar k

-- the tree of entry `i`, lower than `n`
unfoldable pub type_below : ℕ → List TypeEntry → ℕ → Ty
unfolding type_tree
type_below zero ys i = one
type_below (suc n) ys i = type_tree (type_below n ys) (get_or ys i y_unit)

unfoldable pub type_of : List TypeEntry → ℕ → Ty
type_of ys i = type_below (suc i) ys i

----------------------------------------------------------------
-- Terms

pub data TermEntry : Type 0 where
  n_var : ℕ → TermEntry
  n_unit : TermEntry
  -- a type, then a term
  n_inl n_inr n_roll n_unroll : ℕ → ℕ → TermEntry
  n_pair n_let n_letp : ℕ → ℕ → TermEntry
  n_case : ℕ → ℕ → ℕ → TermEntry
  -- function, ancilla terms, the dynamic term
  n_call : ℕ → List ℕ → ℕ → TermEntry

-- by kind, with the three references and the byte that may follow it, and a call's ancilla terms and dynamic term
unfoldable pub term_of_kind : ℕ → ℕ → ℕ → ℕ → ℕ → List ℕ → ℕ → TermEntry
term_of_kind kind a b c n ts t =
    get_or (n_var n ∷ n_unit ∷ n_inl a b ∷ n_inr a b ∷ n_pair a b ∷ n_let a b ∷ n_letp a b ∷ n_case a b c ∷ n_call a ts t ∷ n_roll a b ∷ []) kind (n_unroll a b)

-- how many ancilla terms a call has: of its body of 1 + 2 + 2 × (ancillae + 1) bytes
unfoldable pub call_ancillae : ℕ → ℕ
call_ancillae n = (n - 5) / 2

-- the term entry whose field is at `at`
unfoldable pub term_at : List ℕ → ℕ → TermEntry
unfolding call_ancillae
term_at xs at = term_of_kind (kind_at xs at) (get16 xs (at + 4)) (get16 xs (at + 6)) (get16 xs (at + 8)) (get_or xs (at + 4) 0)
    (references xs (at + 6) (call_ancillae (length_at xs at))) (get16 xs (at + 6 + 2 * call_ancillae (length_at xs at)))

-- the trees of terms, in order
unfoldable pub term_trees : (ℕ → Term) → List ℕ → Terms
term_trees go [] = end
term_trees go (t ∷ ts) = more (go t) (term_trees go ts)

-- the tree of entry `k`, types given by `ty`, the trees of lower entries by `go`
unfoldable pub term_tree : (ℕ → Ty) → (ℕ → Term) → ℕ → TermEntry → Term
unfolding term_trees
term_tree ty go k (n_var i) = var k i
term_tree ty go k n_unit = tunit k
term_tree ty go k (n_inl c e) = tinl k (ty c) (go e)
term_tree ty go k (n_inr c e) = tinr k (ty c) (go e)
term_tree ty go k (n_roll c e) = troll k (ty c) (go e)
term_tree ty go k (n_unroll c e) = tunroll k (ty c) (go e)
term_tree ty go k (n_pair e e') = tpair k (go e) (go e')
term_tree ty go k (n_let e b) = tlet k (go e) (go b)
term_tree ty go k (n_letp e b) = tletp k (go e) (go b)
term_tree ty go k (n_case e b b') = tcase k (go e) (go b) (go b')
term_tree ty go k (n_call g ts e) = tcall k g (term_trees go ts) (go e)

-- the tree of entry `k`, lower than `n`
unfoldable pub term_below : ℕ → List TypeEntry → List TermEntry → ℕ → Term
unfolding term_tree
term_below zero ys ts k = tunit k
term_below (suc n) ys ts k = term_tree (type_of ys) (term_below n ys ts) k (get_or ts k n_unit)

unfoldable pub term_of : List TypeEntry → List TermEntry → ℕ → Term
term_of ys ts k = term_below (suc k) ys ts k

----------------------------------------------------------------
-- Functions

pub record FunctionEntry : Type 0 where
  pub result : ℕ
  pub ancillae : List ℕ
  pub dynamic : ℕ
  pub body : ℕ

-- the function entry whose field is at `at`; the last parameter is dynamic
unfoldable pub function_at : List ℕ → ℕ → FunctionEntry
function_at xs at = record {
  result = get16 xs (at + 3);
  ancillae = references xs (at + 6) (parameters_at xs at - 1);
  dynamic = get16 xs (at + 4 + 2 * parameters_at xs at);
  body = get16 xs (at + 6 + 2 * parameters_at xs at);
}

unfoldable pub function_of : List TypeEntry → List TermEntry → FunctionEntry → Fun
function_of ys ts h = record {
  ancillae = map (type_of ys) h.ancillae;
  dynamic = type_of ys h.dynamic;
  result = type_of ys h.result;
  body = term_of ys ts h.body;
}

----------------------------------------------------------------
-- The entries of a program

pub record Entries : Type 0 where
  pub types : List TypeEntry
  pub terms : List TermEntry
  pub functions : List FunctionEntry

unfoldable pub entries_at : List ℕ → Layout → Entries
entries_at xs L = record { types = map (type_at xs) L.types; terms = map (term_at xs) L.terms; functions = map (function_at xs) L.functions }

-- the program that the entries are
unfoldable pub program_of : Entries → Program
program_of E = map (function_of E.types E.terms) E.functions
