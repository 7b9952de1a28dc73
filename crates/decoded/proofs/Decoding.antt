-- A field becomes a row that says the same entry, and the rows of all fields are the program's entries.
use Prim.Native.Nat.{ℕ, zero, suc, ◌+◌, ◌*◌, ◌-◌, ◌≤◌, ◌<◌, min}
use native.Mathlib.Omega.{arith}
use native.Mathlib.Decide.{dec_lt}
use mathlib.Core.Path.{◌≡◌, refl, sym, ap, ap₂, ◌∙◌}
use mathlib.Core.Logic.{◌⊎◌, ⊎_elim, inl as left, inr as right}
use mathlib.Core.List.{List, [], ◌∷◌, map}
use lib.ListN.{length, get_or, set, length-set}
use lib.Seq.{get_or-set_same, get_or-set_other}
use package.Rattle.octets.specs.Numbers.{get16}
use package.Rattle.rules.specs.Limits.{max_terms, max_functions, max_variables}
use package.Rattle.calls.specs.Fields.{kind_at, length_at, parameters_at, term_lengths}
use package.Rattle.calls.specs.Entries.{n_var, n_call, term_of_kind, call_ancillae, references, term_at, term_of, function_at}
use package.Rattle.program.specs.Parts.{variable, first, second, third, listed as listed_at, result_of, body, TermField, FunctionField}
use package.Rattle.program.proofs.Shapes.{term-var, term-unit, term_case, term-call, term_by}
use package.Rattle.program.proofs.Rooms.{term-kind, two-room}
use package.Rattle.program.specs.Kinds.{variable_kind, unit_kind, case_kind, call_kind}
use package.Rattle.program.specs.KindNumbers.{term_kind_number}
use package.Rattle.program.specs.declared.kinds.TermKind.{TermKind}
use package.Rattle.decoded.specs.Rows.{row_numbers, function_rows, counts_at, code_numbers, room_for, kind_in, first_in, second_in, third_in, argument_in}
use package.Rattle.decoded.specs.Rows.{arguments_in, ancillae_in, parameters_in, body_in, term_count, function_count, entry_in, function_in, terms_in}
use package.Rattle.decoded.specs.Rows.{functions_in, listed, names_in, named}
use package.Rattle.decoded.specs.Naming.{RowAsked, RowsNamed}
use package.Rattle.varsets.specs.Sets.{Holds}
use package.Rattle.decoded.proofs.Trees.{Two, by_two, two_no-call, two_no-variable}
use package.Rattle.decoded.proofs.Sets as law
use package.Rattle.decoded.proofs.Sets.{entry_kept}
use package.Rattle.decoded.specs.Decoding.{FieldOfRow, FieldsOfTerms, Beside, Heads, Listed, TermRow, TermPut, FunctionRow, FunctionPut, TermRows, FunctionRows, Decodes}
use package.Rattle.decoded.proofs.Agreeing.{Same, kind-same, first-same, third-same, names_same, entry-same, function-same, listed-map}

----------------------------------------------------------------
-- The row of a term

module _ {code code' : List ℕ} {t kind a b c : ℕ} (H : Heads code code' t kind a b c) where
  -- what the row says, by its numbers
  by_heads : entry_in code' t ≡ term_of_kind kind a b c a (arguments_in code' t 0 (min room_for c)) (argument_in code' t (min room_for c))
  unfolding entry_in ancillae_in
  by_heads = rw (H.kind_is, H.first_is, H.second_is, H.third_is) refl

  beside-heads : Beside code code' t
  beside-heads = record { kept = λ j h. H.others j (⊎_elim (λ l. left l) (λ l. right (omega arith)) h) }

  -- of a term that is no call
  put-plain : {p : List ℕ} {at : ℕ} → kind ≡ kind_at p at → ¬ (kind ≡ call_kind) → (kind ≡ variable_kind → a < max_variables)
      → term_of_kind kind a b c a (arguments_in code' t 0 (min room_for c)) (argument_in code' t (min room_for c)) ≡ term_at p at → TermPut code code' t p at
  put-plain e d small same = record {
    lengths = H.lengths;
    row = record {
      entry = by_heads ∙ same;
      kind = H.kind_is ∙ e;
      few = λ q. absurd (d (sym H.kind_is ∙ q));
      variables = λ q. rw H.first_is (small (sym H.kind_is ∙ q));
    };
    beside = beside-heads;
  }

pub put-variable : {code code' : List ℕ} {t v : ℕ} {p : List ℕ} {at : ℕ} → Heads code code' t variable_kind v 0 0 → kind_at p at ≡ variable_kind → v ≡ variable p at
    → variable p at < max_variables → TermPut code code' t p at
unfolding term_of_kind
put-variable {p = p} {at} H k e small = put-plain H (sym k) (λ q. omega arith) (λ q. omega arith) (ap n_var e ∙ sym (term-var p at k))

pub put-unit : {code code' : List ℕ} {t : ℕ} {p : List ℕ} {at : ℕ} → Heads code code' t unit_kind 0 0 0 → kind_at p at ≡ unit_kind → TermPut code code' t p at
unfolding term_of_kind
put-unit {p = p} {at} H k = put-plain H (sym k) (λ q. omega arith) (λ q. absurd (omega arith)) (sym (term-unit p at k))

pub put_case : {code code' : List ℕ} {t a b c : ℕ} {p : List ℕ} {at : ℕ} → Heads code code' t case_kind a b c → kind_at p at ≡ case_kind → a ≡ first p at → b ≡ second p at
    → c ≡ third p at
    → TermPut code code' t p at
unfolding term_of_kind
put_case {p = p} {at} H k ea eb ec = put-plain H (sym k) (λ q. omega arith) (λ q. absurd (omega arith)) (rw (ea, eb, ec) (sym (term_case p at k)))

-- a kind with two references, which says nothing of the other numbers
two-references : {x : TermKind} (a b c n t c' n' t' : ℕ) (ts ts' : List ℕ) → Two x
    → term_of_kind (term_kind_number x) a b c n ts t ≡ term_of_kind (term_kind_number x) a b c' n' ts' t'
unfolding term_of_kind
two-references a b c n t c' n' t' ts ts' w = by_two (λ x. term_of_kind (term_kind_number x) a b c n ts t ≡ term_of_kind (term_kind_number x) a b c' n' ts' t')
    refl refl refl refl refl refl refl w

-- such a kind's field has both references
two-long : {x : TermKind} → Two x → get_or term_lengths (term_kind_number x) 0 ≡ 5
unfolding term_lengths
two-long w = by_two (λ x. get_or term_lengths (term_kind_number x) 0 ≡ 5) refl refl refl refl refl refl refl w

pub two-there : {p : List ℕ} {at : ℕ} {x : TermKind} → TermField p at → term_kind_number x ≡ kind_at p at → Two x → at + 8 ≤ length p
two-there F e w = two-room F (sym e) (two-long w)

pub put_two : {code code' : List ℕ} {t k a b : ℕ} {p : List ℕ} {at : ℕ} {x : TermKind} → Heads code code' t k a b 0 → k ≡ term_kind_number x
    → term_kind_number x ≡ kind_at p at → Two x → a ≡ first p at → b ≡ second p at → TermPut code code' t p at
put_two {code' = code'} {t = t} {k = k} {a = a} {b = b} {p = p} {at = at} {x = x} H n e w ea eb =
    put-plain H (n ∙ e) (λ q. two_no-call w (sym n ∙ q)) (λ q. absurd (two_no-variable w (sym n ∙ q)))
    (ap (λ k. term_of_kind k a b 0 a (arguments_in code' t 0 (min room_for 0)) (argument_in code' t (min room_for 0))) n
    ∙ two-references a b 0 a (argument_in code' t (min room_for 0)) (third p at) (variable p at) (listed_at p at (call_ancillae (length_at p at))) (arguments_in code' t 0 (min room_for 0))
    (references p (at + 6) (call_ancillae (length_at p at))) w
    ∙ ap₂ (λ a b. term_of_kind (term_kind_number x) a b (third p at) (variable p at) (references p (at + 6) (call_ancillae (length_at p at)))
    (listed_at p at (call_ancillae (length_at p at)))) ea eb
    ∙ sym (term_by p at (sym e)))

----------------------------------------------------------------
-- References behind the head

module _ {code code' : List ℕ} {r : ℕ} {p : List ℕ} {i n : ℕ} (L : Listed code code' r p i n) where
  listed_are : (k m j : ℕ) → k + m ≤ n → j ≡ i + 2 * k → arguments_in code' r k m ≡ references p j m
  unfolding arguments_in references
  listed_are k zero j h e = refl
  listed_are k (suc m) j h e = ap₂ ◌∷◌ (L.arguments k (omega arith) ∙ ap (get16 p) (sym e)) (listed_are (k + 1) m (j + 2) (omega arith) (omega arith))

  head-kept : (j : ℕ) → j < 4 → get_or code' (row_numbers * r + j) 0 ≡ get_or code (row_numbers * r + j) 0
  head-kept j h = L.others (row_numbers * r + j) (left (omega arith))

  kind-kept : kind_in code' r ≡ kind_in code r
  unfolding kind_in
  kind-kept = rw (let z : row_numbers * r + 0 ≡ row_numbers * r = omega arith in z) at (head-kept 0 (omega arith))

  first-kept : first_in code' r ≡ first_in code r
  unfolding first_in
  first-kept = head-kept 1 (omega arith)

  second-kept : second_in code' r ≡ second_in code r
  unfolding second_in
  second-kept = head-kept 2 (omega arith)

  third-kept : third_in code' r ≡ third_in code r
  unfolding third_in
  third-kept = head-kept 3 (omega arith)

  beside-listed : n ≤ room_for + 1 → Beside code code' r
  beside-listed h = record { kept = λ j b. L.others j (⊎_elim (λ l. left (omega arith)) (λ l. right (omega arith)) b) }

-- a row with a head and references
both-beside : {code code₁ code₂ : List ℕ} {r kind a b c : ℕ} {p : List ℕ} {i n : ℕ} → Heads code code₁ r kind a b c → Listed code₁ code₂ r p i n → n ≤ room_for + 1
    → Beside code code₂ r
both-beside H L h = record { kept = λ j b. (beside-listed L h).kept j b ∙ (beside-heads H).kept j b }

pub put-call : {code code₁ code₂ : List ℕ} {t f n : ℕ} {p : List ℕ} {at : ℕ} → Heads code code₁ t call_kind f 0 n → Listed code₁ code₂ t p (at + 6) (n + 1)
    → kind_at p at ≡ call_kind
    → f ≡ first p at → n ≡ call_ancillae (length_at p at) → n ≤ room_for → TermPut code code₂ t p at
unfolding entry_in ancillae_in term_of_kind
put-call {code₂ = code₂} {t} {f} {n} {p} {at} H L k ef en few = record {
  lengths = L.lengths ∙ H.lengths;
  row = record {
    entry = rw (kind-kept L ∙ H.kind_is, first-kept L ∙ H.first_is, third-kept L ∙ H.third_is, all)
        (ap₂ (n_call f) (listed_are L 0 n (at + 6) (omega arith) (omega arith)) (L.arguments n (omega arith)) ∙ rw (ef, en) (sym (term-call p at k)));
    kind = kind-kept L ∙ H.kind_is ∙ sym k;
    few = λ q. omega (arith, third-kept L, H.third_is);
    variables = λ q. absurd (omega (arith, kind-kept L, H.kind_is, q));
  };
  beside = both-beside H L (omega arith);
}
  where
    all : min room_for n ≡ n
    all = omega arith

pub put_function : {code code₁ code₂ : List ℕ} {g n b c : ℕ} {p : List ℕ} {at : ℕ} → Heads code code₁ (function_rows + g) n b c 0
    → Listed code₁ code₂ (function_rows + g) p (at + 6) n
    → FunctionField p at → n ≡ parameters_at p at → b ≡ body p at → c ≡ result_of p at → n ≤ room_for + 1 → FunctionPut code code₂ g p at
unfolding function_in parameters_in body_in function_at
put_function {code₂ = code₂} {g} {n} {b} {c} {p} {at} H L F en eb ec few = record {
  lengths = L.lengths ∙ H.lengths;
  row = record {
    entry = rw (kind-kept L ∙ H.kind_is, first-kept L ∙ H.first_is, second-kept L ∙ H.second_is, all)
        (rw (eb, ec) (ap₂ (λ (ts : List ℕ) (t : ℕ). record { result = result_of p at; ancillae = ts; dynamic = t; body = body p at })
        (listed_are L 0 (n - 1) (at + 6) (omega arith) (omega arith) ∙ ap (λ n. references p (at + 6) (n - 1)) en)
        (L.arguments (n - 1) (omega (arith, F.some)) ∙ ap (get16 p) last)));
    parameters = kind-kept L ∙ H.kind_is ∙ en;
  };
  beside = both-beside H L few;
}
  where
    all : min room_for (n - 1) ≡ n - 1
    all = omega arith

    -- where the dynamic parameter stands
    last : at + 6 + 2 * (n - 1) ≡ at + 4 + 2 * parameters_at p at
    last = omega (arith, F.some)

----------------------------------------------------------------
-- All rows

-- a row beside the one that was put
same_beside : {code code' : List ℕ} {r u : ℕ} → Beside code code' r → ¬ (u ≡ r) → Same code code' u
same_beside {r = r} {u} B d = record { number = λ j h. B.kept (row_numbers * u + j) (go j h (dec_lt u r)) }
  where
    go : (j : ℕ) → j < row_numbers → Dec (u < r) → (row_numbers * u + j < row_numbers * r) ⊎ (row_numbers * r + row_numbers ≤ row_numbers * u + j)
    go j h (yes l) = left (omega arith)
    go j h (no l) = let z : r < u = omega arith in right (omega arith)

row_same : {code code' : List ℕ} {t : ℕ} {p : List ℕ} {at : ℕ} → Same code code' t → TermRow code t p at → TermRow code' t p at
row_same S R = record {
  entry = entry-same S ∙ R.entry;
  kind = kind-same S ∙ R.kind;
  few = λ q. rw (third-same S) (R.few (sym (kind-same S) ∙ q));
  variables = λ q. rw (first-same S) (R.variables (sym (kind-same S) ∙ q));
}

function-row-same : {code code' : List ℕ} {g : ℕ} {p : List ℕ} {at : ℕ} → Same code code' (function_rows + g) → FunctionRow code g p at
    → FunctionRow code' g p at
unfolding parameters_in
function-row-same {g = g} S R = record { entry = function-same g S ∙ R.entry; parameters = kind-same S ∙ R.parameters }

-- the field that is asked for, at an offset that was read
pub term-asked : {p terms : List ℕ} {t at : ℕ} → FieldsOfTerms p terms → t < length terms → at ≡ get_or terms t 0 → FieldOfRow p at
term-asked T l e = rw e (T.row _ l)

pub no_rows : (code p terms : List ℕ) → TermRows code code p terms 0
no_rows code p terms = record { lengths = refl; row = λ t l. absurd (omega arith) }

pub rows_more : {code code₁ code₂ p terms : List ℕ} {n at : ℕ} → TermRows code code₁ p terms n → at ≡ get_or terms n 0 → TermPut code₁ code₂ n p at
    → TermRows code code₂ p terms (n + 1)
rows_more {code} {code₁} {code₂} {p} {terms} {n} R here P = record { lengths = P.lengths ∙ R.lengths; row = λ t l. go t (dec_lt t n) l }
  where
    go : (t : ℕ) → Dec (t < n) → t < n + 1 → TermRow code₂ t p (get_or terms t 0)
    go t (yes l) h = row_same (same_beside P.beside (λ e. omega arith)) (R.row t l)
    go t (no l) h = let e : t ≡ n = omega arith in rw (e, sym here) P.row

pub functions_more : {code code₁ code₂ p functions : List ℕ} {n at : ℕ} → FunctionRows code code₁ p functions n → at ≡ get_or functions n 0
    → FunctionPut code₁ code₂ n p at
    → FunctionRows code code₂ p functions (n + 1)
functions_more {code} {code₁} {code₂} {p} {functions} {n} R here P = record {
  lengths = P.lengths ∙ R.lengths;
  row = λ g l. go g (dec_lt g n) l;
  before = λ j l. P.beside.kept j (left (omega arith)) ∙ R.before j l;
}
  where
    go : (g : ℕ) → Dec (g < n) → g < n + 1 → FunctionRow code₂ g p (get_or functions g 0)
    go g (yes l) h = function-row-same (same_beside P.beside (λ e. omega arith)) (R.row g l)
    go g (no l) h = let e : g ≡ n = omega arith in rw (e, sym here) P.row

----------------------------------------------------------------
-- The variables that the terms name

module _ {code₀ code p terms : List ℕ} (A : FieldsOfTerms p terms) (T : TermRows code₀ code p terms (length terms)) where
  pub rows-asked : (t : ℕ) → t < length terms → RowAsked code t
  rows-asked t l = record {
    known = rw (T.row t l).kind (term-kind (A.row t l).field);
    variables = (T.row t l).variables;
    few = (T.row t l).few;
    lower = rw (T.row t l).entry (A.lower t l);
  }

  module _ {code₁ : List ℕ} (N : RowsNamed code code₁ (length terms) (length terms)) where
    pub rows-kept : TermRows code₀ code₁ p terms (length terms)
    rows-kept = record { lengths = N.lengths ∙ T.lengths; row = row }
      where
        row : (t : ℕ) → t < length terms → TermRow code₁ t p (get_or terms t 0)
        row t l = let K = N.kept t l in record {
          entry = entry_kept K ∙ (T.row t l).entry;
          kind = law.kind-kept K ∙ (T.row t l).kind;
          few = λ q. rw (law.third-kept K) ((T.row t l).few (sym (law.kind-kept K) ∙ q));
          variables = λ q. rw (law.first-kept K) ((T.row t l).variables (sym (law.kind-kept K) ∙ q));
        }

    -- the sets, by the program's entries
    pub names-kept : (t : ℕ) → t < length terms → kind_in code₁ t ≡ case_kind
        → Holds (names_in code₁ t) (λ i. named i (term_of [] (map (term_at p) terms) (first_in code₁ t)))
    names-kept t l e = let K = N.kept t l in
        rw (law.first-kept K, sym entries_are) (N.names t l (sym (law.kind-kept K) ∙ e))
      where
        entries_are : listed (entry_in code) 0 (length terms) ≡ map (term_at p) terms
        entries_are = listed-map (entry_in code) (term_at p) terms 0 (λ k l. ap (entry_in code) (let z : 0 + k ≡ k = omega arith in z) ∙ (T.row k l).entry)

----------------------------------------------------------------
-- The program

module _ {code₀ code code₁ p terms functions : List ℕ} (full : length code₁ ≡ code_numbers) (few_terms : length terms ≤ max_terms)
    (few_functions : length functions ≤ max_functions)
    (T : TermRows code₀ code p terms (length terms))
    (N : (t : ℕ) → t < length terms → kind_in code t ≡ case_kind → Holds (names_in code t) (λ i. named i (term_of [] (map (term_at p) terms) (first_in code t))))
    (F : FunctionRows code code₁ p functions (length functions)) where
  abbrev counted : List ℕ
  counted = set (set code₁ counts_at (length terms)) (counts_at + 1) (length functions)

  -- the counts stand behind all rows
  numbers-kept : (j : ℕ) → j < counts_at → get_or counted j 0 ≡ get_or code₁ j 0
  numbers-kept j l =
      get_or-set_other (set code₁ counts_at (length terms)) (counts_at + 1) j (length functions) 0 (λ e. omega arith)
      ∙ get_or-set_other code₁ counts_at j (length terms) 0 (λ e. omega arith)

  term-same : (t : ℕ) → t < length terms → Same code counted t
  term-same t l = record { number = λ j h. numbers-kept (row_numbers * t + j) (omega arith) ∙ F.before (row_numbers * t + j) (omega arith) }

  term-row : (t : ℕ) → t < length terms → TermRow counted t p (get_or terms t 0)
  term-row t l = row_same (term-same t l) (T.row t l)

  function-row : (g : ℕ) → g < length functions → FunctionRow counted g p (get_or functions g 0)
  function-row g l = function-row-same (record { number = λ j h. numbers-kept (row_numbers * (function_rows + g) + j) (omega arith) }) (F.row g l)

  count-terms : term_count counted ≡ length terms
  unfolding term_count
  count-terms =
      get_or-set_other (set code₁ counts_at (length terms)) (counts_at + 1) counts_at (length functions) 0 (λ e. omega arith)
      ∙ get_or-set_same code₁ counts_at (length terms) 0 (omega arith)

  count-functions : function_count counted ≡ length functions
  unfolding function_count
  count-functions = get_or-set_same (set code₁ counts_at (length terms)) (counts_at + 1) (length functions) 0 (simp length-set (omega arith))

  terms-counted : terms_in counted ≡ map (term_at p) terms
  unfolding terms_in
  terms-counted =
      ap (listed (entry_in counted) 0) count-terms
      ∙ listed-map (entry_in counted) (term_at p) terms 0 (λ k l. ap (entry_in counted) (let z : 0 + k ≡ k = omega arith in z) ∙ (term-row k l).entry)

  pub decodes : Decodes counted p terms functions
  unfolding functions_in
  decodes = record {
    terms_are = terms-counted;
    functions_are = ap (listed (function_in counted) 0) count-functions
        ∙ listed-map (function_in counted) (function_at p) functions 0
        (λ k l. ap (function_in counted) (let z : 0 + k ≡ k = omega arith in z) ∙ (function-row k l).entry);
    as_many_terms = count-terms;
    as_many_functions = count-functions;
    row = term-row;
    function = function-row;
    names = λ t l e. let same = term-same t l in
        rw (names_same same, first-same same, terms-counted) (N t l (sym (kind-same same) ∙ e));
  }
