-- Classes of places.
pub mod ClassLoop
pub mod MeetLoops
pub mod RoundLoops
pub mod RootLoops
