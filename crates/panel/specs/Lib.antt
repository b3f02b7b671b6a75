-- What a front panel or a debugger reads.
pub mod Panel
