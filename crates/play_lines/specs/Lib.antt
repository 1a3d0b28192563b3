pub mod PlayLines
