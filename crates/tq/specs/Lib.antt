pub mod SessionLines
pub mod SessionRefusals
