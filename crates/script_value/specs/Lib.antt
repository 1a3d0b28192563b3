pub mod Content
pub mod ScriptText
pub mod Valid
pub mod Made
