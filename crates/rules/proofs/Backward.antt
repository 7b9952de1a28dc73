-- Backward: what it answers the rules yield (Sound); good runs where variables leave (Pop); what the rules yield it answers, within
-- limits (Outcome); never stuck (Safe); what it binds fits (Fits).
pub mod Sound
pub mod Pop
pub mod Outcome
pub mod Safe
pub mod Fits
