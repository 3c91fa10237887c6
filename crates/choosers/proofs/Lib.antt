pub mod WorkedChoices
