pub mod Digits
pub mod Judging
pub mod Lines
pub mod Numbers
pub mod OneFronts
pub mod OneJudgement
