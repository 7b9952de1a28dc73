-- Forward: what it answers the rules yield (Sound); what the rules yield it answers, within limits (Outcome); never stuck (Safe).
pub mod Sound
pub mod Outcome
pub mod Safe
