-- CoreFun's rules over trees, as document 01 reads them. The modules in reading order:
-- every limit, by name
pub mod Limits
-- values, their size and their bytes (section 1)
pub mod Val
-- types, unfolding, node count; which values a type has (section 1)
pub mod Ty
-- terms with their entry numbers, functions, programs, scopes (section 1); which variables a term uses (02, F-2)
pub mod Term
-- may-yield (section 3)
pub mod Yield
-- the evaluation rules, Fig. 6, with steps, height and size (sections 2 and 3)
pub mod Rules
-- the typing rules, Fig. 3 and 4 (section 3; 02, F-2)
pub mod Typing
-- typing as a function, with refusals 6, 7 and 8 (section 4)
pub mod Check
-- runs: fuel, answers and refusals (section 4)
pub mod Run
-- forward and backward as functions, with refusals 12 to 16 (sections 2 and 4)
pub mod Machine
-- what is proved of all these, as propositions
pub mod Claims
-- section 6's cases P1 to P12 and those of F-2, as one proposition
pub mod Cases
-- those of F-3
pub mod Choices
