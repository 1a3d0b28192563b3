pub mod MoveFits
pub mod MoveRest
pub mod BeginFits
pub mod BeginRest
pub mod ResizeRest
pub mod ResizeFits
pub mod ResizeOpRest
