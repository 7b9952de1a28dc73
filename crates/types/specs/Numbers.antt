-- Codes as three numbers: a form, and what it names.
use Rattle.std.specs.Prelude.{ℕ, zero, suc}
use package.Rattle.types.specs.declared.codes.Code.{Code}
use package.Rattle.types.specs.declared.codes.Code.TheVariants as code
use package.Rattle.types.specs.declared.nodes.Numbers.{Numbers}

abbrev pub unit_form : ℕ
unit_form = 0

abbrev pub entry_form : ℕ
entry_form = 1

abbrev pub under_form : ℕ
under_form = 2

abbrev pub product_form : ℕ
product_form = 3

abbrev pub numbers_of : Code → Numbers
numbers_of code.Unit = record { form = unit_form; at = 0; stands = 0 }
numbers_of (code.Entry i) = record { form = entry_form; at = i; stands = 0 }
numbers_of (code.Under i j) = record { form = under_form; at = i; stands = j }
numbers_of (code.Product n) = record { form = product_form; at = n; stands = 0 }

-- a product node that no workspace has room for
abbrev pub no_product : ℕ
no_product = 65535

-- the code that a form and two numbers are read as; a form that there is not is read as a product that is not there
unfoldable pub code_of : ℕ → ℕ → ℕ → Code
code_of zero at stands = code.Unit
code_of (suc zero) at stands = code.Entry at
code_of (suc (suc zero)) at stands = code.Under at stands
code_of (suc (suc (suc zero))) at stands = code.Product at
code_of (suc (suc (suc (suc n)))) at stands = code.Product no_product
